-- `matching::augmenting::Ground::column_visit` and `matching::augmenting::Ground::row_visit`, which call each other, meet their contracts. What each need says of the two visits stands in Visits.Column and Visits.Row.
-- The measure is twice the columns that are not entered, and one more for a row. The loop's invariant: looks are paid for by nonzeros and columns, and what is left of the row's nonzeros decides the visit.
-- Assumes nothing.
use Prim.Native.Nat.{◌+◌, ◌*◌, ◌≤◌, ◌<◌}
use mathlib.Core.Path.{◌≡◌}
use lib.ListN.{length}
use Rattle.matching.specs.Augmenting.{ground_in, unseen, row_room, side_room}
use Rattle.matching.proofs.Visits.Row.{Rest}
use Rattle.matching.proofs.augmenting.Ground.+column_visit_row_visit.Given as goal

abbrev pub decreases-column_visit : goal.decreases-column_visit
decreases-column_visit l = 2 * unseen l.seen.now

abbrev pub decreases-row_visit : goal.decreases-row_visit
decreases-row_visit l = 2 * unseen l.seen.now + 1

abbrev pub invariant-row_visit-loop-t : goal.invariant-row_visit-loop-t
invariant-row_visit-loop-t l = (length l.seen ≡ side_room)
    × (length l.mate ≡ side_room)
    × (l.t < row_room)
    × (l.looks + row_room * unseen l.seen ≤ l.t + row_room * unseen l.initial.seen)
    × Rest (ground_in l.self) l.i l.end l.initial.seen l.initial.mate l.t l.looks l.seen l.mate
