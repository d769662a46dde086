-- `matching::starts::row_counts` meets its contract. The loop's invariant: each number counts the nonzeros passed of the row one place down.
-- Assumes nothing.
use mathlib.Core.Path.{◌≡◌}
use Prim.Native.Nat.{ℕ, ◌≤◌}
use lib.ListN.{length, get_or}
use Rattle.matching.specs.Starts.{side_room, side_ends, row_count}
use Rattle.matching.proofs.starts.row_counts.Given as goal

abbrev pub invariant-loop-t : goal.invariant-loop-t
invariant-loop-t l = (length l.counts ≡ side_ends)
    × (l.t ≤ l.matrix.nonzeros)
    × ((i : ℕ) → i ≤ side_room → get_or l.counts i 0 ≡ row_count l.matrix.list.now l.t i)
