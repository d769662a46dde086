-- Document 01, 'Refusal table' and 'Texts': what the writer answers and leaves in its output, for any values.
-- Assumes nothing.
use Rattle.std.specs.Prelude.{List, [], ◌∷◌, ℕ, ◌*◌, ltb, length, Result, Ok, Err}
use Rattle.std.proofs.lemmas.List.Edits.{sets}
use Rattle.counting.specs.Tests.{◌or◌, pick}
use Rattle.model.specs.declared.Word.TheVariants.{ShortBuffer}
use Rattle.model.specs.declared.Refusal.{Refusal}
use Rattle.model.specs.Refusal.{Verdict, Reply, given, reply_after, answer_reply, refuse, ◌then◌, each_verdict}
use Rattle.model.specs.Pattern.{entry_bytes}
use Rattle.model.specs.Calls.{sizes_verdict, entry_verdict}
use Rattle.pattern.specs.Measures.{part_verdict}
use Rattle.writing.specs.declared.Figures.{Figures}
use Rattle.writing.specs.Written.{text_of}

-- 17, 5, 10, 8: the checks of a nonzero
unfoldable pub nonzero_verdict : ℕ → ℕ → List ℕ → List ℕ → ℕ → Verdict
nonzero_verdict m n list parts t = entry_verdict m n list t then part_verdict parts t

-- the writer: 4, 9 for list and parts, then per nonzero 17, 5, 10, 8
unfoldable pub write_verdict : ℕ → ℕ → ℕ → List ℕ → List ℕ → Verdict
write_verdict m n nonzeros list parts =
    sizes_verdict m n nonzeros
    then (refuse (ltb (length list) (entry_bytes * nonzeros) or ltb (length parts) nonzeros) ShortBuffer 0
    then each_verdict (nonzero_verdict m n list parts) nonzeros)

-- last 9 for its output; otherwise the text's length
unfoldable pub length_answer : List ℕ → List ℕ → Result ℕ Refusal
length_answer text out = refuse (ltb (length out) (length text)) ShortBuffer 0 then Ok (length text)

-- the output: the text, and the bytes past it as they were
unfoldable pub text_out : List ℕ → List ℕ → List ℕ
text_out text out = pick (ltb (length out) (length text)) out (sets out 0 text)

-- the output after this verdict
unfoldable pub out_written : Verdict → List ℕ → List ℕ → List ℕ
out_written (Ok _) text out = text_out text out
out_written (Err refusal) text out = out

-- what the writer answers
unfoldable pub write_call : ℕ → ℕ → ℕ → List ℕ → List ℕ → Figures → List ℕ → Result ℕ Refusal
write_call m n nonzeros list parts f out =
    write_verdict m n nonzeros list parts then length_answer (text_of m n nonzeros list parts f) out

-- the output's bytes after a writing
unfoldable pub write_out : ℕ → ℕ → ℕ → List ℕ → List ℕ → Figures → List ℕ → List ℕ
write_out m n nonzeros list parts f out =
    out_written (write_verdict m n nonzeros list parts) (text_of m n nonzeros list parts f) out

-- the number and values of each case of an answer: the text's length
abbrev pub write_reply : Result ℕ Refusal → Reply
write_reply = answer_reply (λ len. given (len ∷ []))

-- what a writing replies: the text's length; last of the checks is 9 for its output
unfoldable pub write_replies : ℕ → ℕ → ℕ → List ℕ → List ℕ → Figures → List ℕ → Reply
write_replies m n nonzeros list parts f out =
    let text = text_of m n nonzeros list parts f in
    reply_after
    (write_verdict m n nonzeros list parts then refuse (ltb (length out) (length text)) ShortBuffer 0)
    (given (length text ∷ []))
