-- `matching::augmenting::Ground::matching_of` meets its contract. The loop's invariant: size, looks and mates are those of the starts from the rows passed.
-- Assumes nothing.
use mathlib.Core.Path.{◌≡◌}
use Prim.Native.Nat.{◌+◌, ◌*◌, ◌≤◌}
use lib.ListN.{length}
use Rattle.model.specs.Matching.{tally, starts_from}
use Rattle.matching.specs.Augmenting.{ground_in, columns_in, mates_in, row_room, side_room}
use Rattle.matching.proofs.augmenting.Ground.matching_of.Given as goal

abbrev pub invariant-loop-i : goal.invariant-loop-i
invariant-loop-i l = (l.size ≤ l.i)
    × (l.i ≤ l.self.m)
    × (l.looks ≤ row_room * (side_room + 1) * l.i)
    × (length l.mate ≡ side_room)
    × (tally l.size l.looks (mates_in l.mate) ≡ starts_from (columns_in (ground_in l.self)) side_room l.i)
