-- The numbers of the refusal table: none is 0 or 255, which stand for other answers.
-- Assumes nothing.
use Prim.Native.Nat.{◌≤◌, ◌<◌}
use native.Mathlib.Omega.{arith}
use Rattle.model.specs.declared.Word.{Word}
use Rattle.model.specs.declared.Word.TheVariants.{Banner, SizeLine, EntryForm, TooBig, OffMatrix, Repeated, Count, BadPart, ShortBuffer, Order, Cap, NoSplit, Budget, State, NotSquare, AboveDiagonal, SplitNumber}
use Rattle.model.specs.Refusal.{refusal_number}

pub number_range : (word : Word) → (1 ≤ refusal_number word) × (refusal_number word < 255)
number_range Banner = (omega arith, omega arith)
number_range SizeLine = (omega arith, omega arith)
number_range EntryForm = (omega arith, omega arith)
number_range TooBig = (omega arith, omega arith)
number_range OffMatrix = (omega arith, omega arith)
number_range Repeated = (omega arith, omega arith)
number_range Count = (omega arith, omega arith)
number_range BadPart = (omega arith, omega arith)
number_range ShortBuffer = (omega arith, omega arith)
number_range Order = (omega arith, omega arith)
number_range Cap = (omega arith, omega arith)
number_range NoSplit = (omega arith, omega arith)
number_range Budget = (omega arith, omega arith)
number_range State = (omega arith, omega arith)
number_range NotSquare = (omega arith, omega arith)
number_range AboveDiagonal = (omega arith, omega arith)
number_range SplitNumber = (omega arith, omega arith)
