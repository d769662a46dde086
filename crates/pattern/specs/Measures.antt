-- What is answered when the volume or the load of a split given as bytes is asked for, for any values.
-- Assumes nothing.
use Rattle.std.specs.Prelude.{List, [], ◌∷◌, ℕ, ltb, length, get_or, Result, Ok}
use Rattle.model.specs.declared.Part.{Part}
use Rattle.model.specs.declared.Word.TheVariants.{BadPart, ShortBuffer}
use Rattle.model.specs.declared.Refusal.{Refusal}
use Rattle.model.specs.Refusal.{Verdict, refuse, ◌then◌, each_verdict, Reply, given, reply_after, answer_reply}
use Rattle.model.specs.Pattern.{pattern_of}
use Rattle.model.specs.Split.{volume, load}
use Rattle.model.specs.Calls.{list_verdict}
use Rattle.pattern.specs.Splits.{split_of}

-- 8: the part byte of nonzero t is above 1
unfoldable pub part_verdict : List ℕ → ℕ → Verdict
part_verdict parts t = refuse (ltb 1 (get_or parts t 0)) BadPart t

-- the checks of parts: 9, then per nonzero 8
unfoldable pub parts_verdict : ℕ → List ℕ → Verdict
parts_verdict nonzeros parts =
    refuse (ltb (length parts) nonzeros) ShortBuffer 0 then each_verdict (part_verdict parts) nonzeros

-- the checks of a list, then those of its parts
unfoldable pub measure_verdict : ℕ → ℕ → ℕ → List ℕ → List ℕ → Verdict
measure_verdict m n nonzeros list parts =
    list_verdict m n nonzeros list then parts_verdict nonzeros parts

-- what is answered for the volume
unfoldable pub volume_call : ℕ → ℕ → ℕ → List ℕ → List ℕ → Result ℕ Refusal
volume_call m n nonzeros list parts =
    measure_verdict m n nonzeros list parts
    then Ok (volume (pattern_of m n nonzeros list) (split_of parts))

-- what is answered for the load of a part
unfoldable pub load_call : ℕ → ℕ → ℕ → List ℕ → List ℕ → Part → Result ℕ Refusal
load_call m n nonzeros list parts p =
    measure_verdict m n nonzeros list parts
    then Ok (load (pattern_of m n nonzeros list) (split_of parts) p)

-- the number and values of each case: the volume or the load
abbrev pub measured_reply : Result ℕ Refusal → Reply
measured_reply = answer_reply (λ value. given (value ∷ []))

-- what is replied for the volume
unfoldable pub volume_replies : ℕ → ℕ → ℕ → List ℕ → List ℕ → Reply
volume_replies m n nonzeros list parts =
    reply_after
    (measure_verdict m n nonzeros list parts)
    (given (volume (pattern_of m n nonzeros list) (split_of parts) ∷ []))

-- what is replied for the load of a part
unfoldable pub load_replies : ℕ → ℕ → ℕ → List ℕ → List ℕ → Part → Reply
load_replies m n nonzeros list parts p =
    reply_after
    (measure_verdict m n nonzeros list parts)
    (given (load (pattern_of m n nonzeros list) (split_of parts) p ∷ []))
