-- A law of marks by line.
-- Assumes nothing.
use mathlib.Core.List.{List}
use mathlib.Core.Path.{◌≡◌, ap}
use Prim.Native.Nat.{ℕ, ◌<◌}
use native.Mathlib.Nat.{mod-eq_of_lt}
use lib.ListN.{get_or}
use Rattle.model.specs.Limits.{line_room}
use Rattle.weighing.specs.Cells.{marking_in}

-- a line that the array has room for is not folded
pub marking_in_lem : (marks : List ℕ) (l : ℕ) → l < line_room → marking_in marks l ≡ get_or marks l 0
unfolding marking_in
marking_in_lem marks l b = ap (λ (i : ℕ). get_or marks i 0) (mod-eq_of_lt b)
