-- `matching::starts::row_starts` meets its contract. The loop's invariant: the numbers up to place i are starts, and those after it are counts.
-- Assumes nothing.
use mathlib.Core.Path.{◌≡◌}
use Prim.Native.Nat.{ℕ, ◌≤◌, ◌<◌}
use lib.ListN.{length, get_or}
use Rattle.model.specs.Pattern.{pattern_of}
use Rattle.matching.specs.Starts.{side_room, side_ends, row_start, row_count}
use Rattle.matching.proofs.starts.row_starts.Given as goal

abbrev pub invariant-loop-i : goal.invariant-loop-i
invariant-loop-i l = (length l.starts ≡ side_ends)
    × (l.i ≤ side_room)
    × ((k : ℕ) → k ≤ l.i → get_or l.starts k 0 ≡ row_start (pattern_of 0 0 l.matrix.nonzeros l.matrix.list.now) k)
    × ((k : ℕ) → l.i < k → k ≤ side_room → get_or l.starts k 0 ≡ row_count l.matrix.list.now l.matrix.nonzeros k)
