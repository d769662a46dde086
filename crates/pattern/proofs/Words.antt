-- The refusal table's numbers follow the order in which its words are declared.
-- Assumes nothing.
use mathlib.Core.Path.{◌≡◌, ◌∙◌, ap}
use Prim.Native.Nat.{ℕ, ◌+◌}
use native.Mathlib.Omega.{arith}
use denote.Enum.Declared.{tag_of, declared}
use Rattle.model.specs.contracts.Word.{enum}
use Rattle.model.specs.declared.Word.{Word}
use Rattle.model.specs.declared.Word.TheVariants.{Banner, SizeLine, EntryForm, TooBig, OffMatrix, Repeated, Count, BadPart, ShortBuffer, Order, Cap, NoSplit, Budget, State, NotSquare, AboveDiagonal, SplitNumber}
use Rattle.model.specs.Refusal.{refusal_number}

tag_next : (w : Word) → refusal_number w ≡ tag_of (declared enum) w + 1
tag_next Banner = omega arith
tag_next SizeLine = omega arith
tag_next EntryForm = omega arith
tag_next TooBig = omega arith
tag_next OffMatrix = omega arith
tag_next Repeated = omega arith
tag_next Count = omega arith
tag_next BadPart = omega arith
tag_next ShortBuffer = omega arith
tag_next Order = omega arith
tag_next Cap = omega arith
tag_next NoSplit = omega arith
tag_next Budget = omega arith
tag_next State = omega arith
tag_next NotSquare = omega arith
tag_next AboveDiagonal = omega arith
tag_next SplitNumber = omega arith

-- a word's number is one more than its tag
pub number_by_tag : (w : Word) (tag : ℕ) → tag_of (declared enum) w ≡ tag → refusal_number w ≡ tag + 1
number_by_tag w tag e = tag_next w ∙ ap (◌+ 1) e
