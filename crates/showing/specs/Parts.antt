-- The part that the shown split gives a nonzero, as a number.
-- Assumes nothing.
use Rattle.std.specs.Prelude.{Bool, ℕ}
use Rattle.counting.specs.Tests.{pick}
use Rattle.model.specs.declared.Part.TheVariants.{Zero, One}
use Rattle.model.specs.Split.{part_number}

-- by whether 0 takes the nonzero, 1 takes it, and part 0 has room
unfoldable pub shown_part : Bool → Bool → Bool → ℕ
shown_part zero one room = part_number (pick zero Zero (pick one One (pick room Zero One)))
