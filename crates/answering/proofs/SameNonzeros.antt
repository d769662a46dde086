-- Two texts that are read and give the same nonzeros, as a symmetric text and its opened form do, are answered alike.
-- Assumes nothing.
use mathlib.Core.Bool.{Bool}
use mathlib.Core.List.{List}
use mathlib.Core.Path.{◌≡◌, sym, ◌∙◌}
use Prim.Native.Nat.{ℕ}
use Rattle.texts.specs.Reading.{read_as}
use Rattle.texts.specs.Reading.{read_call}
use Rattle.readback.specs.TextSays.{SameNonzeros}
use Rattle.readback.proofs.SameNonzeros.{sizes_same, list_same}
use Rattle.answering.specs.Answer.{list_room, parts_room, pattern_answer}
use Rattle.answering.proofs.Steps.{text_read}

pub same_answer :
    (one other : List ℕ) (m n nonzeros m' n' nonzeros' : ℕ) (integer integer' : Bool) (percent budget : ℕ) → SameNonzeros one other →
    read_call one list_room parts_room ≡ read_as m n nonzeros integer →
    read_call other list_room parts_room ≡ read_as m' n' nonzeros' integer' →
    pattern_answer one percent budget ≡ pattern_answer other percent budget
same_answer one other m n nonzeros m' n' nonzeros' integer integer' percent budget alike e f =
    let sizes = sizes_same one other list_room parts_room alike e f in
    text_read one percent budget m n nonzeros integer e
    ∙ rw
    (sizes.0, sizes.1, sizes.2, list_same one other list_room parts_room alike e f)
    (sym (text_read other percent budget m' n' nonzeros' integer' f))
