-- Laws of what the writer answers and leaves.
-- Assumes nothing.
use Rattle.std.specs.Prelude.{Result, Ok, Err}
use mathlib.Core.List.{List, [], ◌∷◌}
use mathlib.Core.Path.{◌≡◌, refl, sym, ◌∙◌, ap}
use Prim.Native.Nat.{ℕ, ◌≤◌}
use native.Mathlib.Omega.{arith}
use lib.Dec.{ltb}
use lib.ListN.{length}
use lib.Seq.{sets}
use Rattle.counting.proofs.Joined.{by_test, pick_true, pick-false, never}
use Rattle.model.specs.declared.Word.{Word}
use Rattle.model.specs.declared.Word.TheVariants.{ShortBuffer}
use Rattle.model.specs.declared.Refusal.{Refusal}
use Rattle.model.specs.Refusal.{Verdict, accepted, refused, given, reply_after, refuse, ◌then◌, each_verdict}
use Rattle.model.specs.Limits.{line_limit, nonzero_limit}
use Rattle.model.specs.Calls.{sizes_verdict}
use Rattle.model.proofs.Theorems.Checks.{then_accepted, then_refused, then-first, refuse-not, refuse_no, answered_by, each_more, each-stop, rows_range, columns_range, nonzeros_small}
use Rattle.writing.specs.declared.Figures.{Figures}
use Rattle.writing.specs.Written.{Puts, text_of}
use Rattle.writing.specs.Writing.{write_verdict, length_answer, text_out, out_written, write_call, write_out, write_reply, write_replies}

-- the checks one after another
pub each_none : (check : ℕ → Verdict) → each_verdict check 0 ≡ accepted
unfolding each_verdict
each_none check = refl

pub ruleset checks_each = (each_more, each-stop)

pub ruleset sizes_then = (then_accepted, then_refused, nonzeros_small)

-- what is written is within the limits
module _ (m n nonzeros : ℕ) (list parts : List ℕ) (h : write_verdict m n nonzeros list parts ≡ accepted) where
  sizes_in : sizes_verdict m n nonzeros ≡ accepted
  unfolding write_verdict
  sizes_in = then-first _ _ h

  pub write_rows : m ≤ line_limit
  write_rows = (rows_range m n nonzeros sizes_in).1

  pub write_columns : n ≤ line_limit
  write_columns = (columns_range m n nonzeros sizes_in).1

  pub write_nonzeros : nonzeros ≤ nonzero_limit
  write_nonzeros = nonzeros_small m n nonzeros sizes_in

pub ruleset write_limits = (arith, write_rows, write_columns, write_nonzeros)

-- a writing that answers a length has put its text; one that is refused has put nothing
left_by :
    (v : Verdict) (text out : List ℕ) (len : ℕ) → v then length_answer text out ≡ Ok len →
    Puts out 0 text (out_written v text out) len
unfolding out_written length_answer text_out
left_by (Err refusal) text out len e = never (cc)
left_by (Ok _) text out len e =
    let w = answered_by _ _ e in
    record { after = omega (arith, w.1); bytes = pick-false out (sets out 0 text) (refuse-not _ _ _ w.0) }

kept_by :
    (v : Verdict) (text out : List ℕ) (word : Word) (place : ℕ) → v then length_answer text out ≡ refused word place →
    out_written v text out ≡ out
unfolding out_written length_answer text_out
kept_by (Err refusal) text out word place e = refl
kept_by (Ok _) text out word place e =
    by_test
    (ltb (length out) (length text))
    (λ b. pick_true out (sets out 0 text) b)
    (λ b. let q = sym (then_accepted (Ok (length text)) (refuse_no ShortBuffer 0 b)) ∙ e in
    never (cc))

module _ (m n nonzeros : ℕ) (list parts : List ℕ) (f : Figures) (out : List ℕ) where
  pub write_puts :
      (len : ℕ) → write_call m n nonzeros list parts f out ≡ Ok len →
      Puts out 0 (text_of m n nonzeros list parts f) (write_out m n nonzeros list parts f out) len
  unfolding write_call write_out
  write_puts len e = left_by (write_verdict m n nonzeros list parts) (text_of m n nonzeros list parts f) out len e

  pub write_keeps :
      (word : Word) (place : ℕ) → write_call m n nonzeros list parts f out ≡ refused word place →
      write_out m n nonzeros list parts f out ≡ out
  unfolding write_call write_out
  write_keeps word place e = kept_by (write_verdict m n nonzeros list parts) (text_of m n nonzeros list parts f) out word place e

-- a writing in numbers: the text's length, or 9 where the output has no room for it
write-by-verdict :
    (v : Verdict) (text out : List ℕ) →
    write_reply (v then length_answer text out)
    ≡ reply_after (v then refuse (ltb (length out) (length text)) ShortBuffer 0) (given (length text ∷ []))
unfolding length_answer
write-by-verdict (Ok _) text out = length-replies (refuse (ltb (length out) (length text)) ShortBuffer 0) (length text)
  where
    length-replies : (room : Verdict) (len : ℕ) → write_reply (room then Ok len) ≡ reply_after room (given (len ∷ []))
    length-replies (Ok _) len = refl
    length-replies (Err refusal) len = refl
write-by-verdict (Err refusal) text out = refl

module _ (m n nonzeros : ℕ) (list parts : List ℕ) (f : Figures) (out : List ℕ) where
  pub write-replies :
      write_reply (write_call m n nonzeros list parts f out) ≡ write_replies m n nonzeros list parts f out
  unfolding write_call write_replies
  write-replies = write-by-verdict (write_verdict m n nonzeros list parts) (text_of m n nonzeros list parts f) out

  -- an answer that equals the definition replies so
  pub write_told :
      {answer : Result ℕ Refusal} → answer ≡ write_call m n nonzeros list parts f out →
      write_reply answer ≡ write_replies m n nonzeros list parts f out
  write_told e = ap write_reply e ∙ write-replies

  -- what is answered and left past the checks of the list and the parts, and where one of them refuses
  module _ (v : Verdict) (e : v ≡ write_verdict m n nonzeros list parts) where
    pub write_made :
        {answer : Result ℕ Refusal} {after : List ℕ} → v ≡ accepted →
        answer ≡ length_answer (text_of m n nonzeros list parts f) out → after ≡ text_out (text_of m n nonzeros list parts f) out →
        (answer ≡ write_call m n nonzeros list parts f out) × (after ≡ write_out m n nonzeros list parts f out)
    unfolding write_call write_out out_written
    write_made a q r = (
      q ∙ sym (then_accepted _ (sym e ∙ a)),
      r ∙ ap (λ x. out_written x (text_of m n nonzeros list parts f) out) (sym a ∙ e),
    )

    pub write_stopped :
        (refusal : Refusal) → v ≡ Err refusal →
        (Err refusal ≡ write_call m n nonzeros list parts f out) × (out ≡ write_out m n nonzeros list parts f out)
    unfolding write_call write_out out_written
    write_stopped refusal a = (
      ap (λ x. x then length_answer (text_of m n nonzeros list parts f) out) (sym a ∙ e),
      ap (λ x. out_written x (text_of m n nonzeros list parts f) out) (sym a ∙ e),
    )
