-- `marking::marks::marks_by_line` meets its contract. The loop's invariant: the entries before `l` are marks, and the others unmarked.
-- Assumes nothing.
use mathlib.Core.Path.{◌≡◌}
use Prim.Native.Nat.{ℕ, ◌<◌}
use lib.Dec.{ltb}
use lib.ListN.{length, get_or}
use Rattle.counting.specs.Tests.{pick}
use Rattle.model.specs.Limits.{line_room}
use Rattle.model.specs.Marking.{unmarked}
use Rattle.marking.specs.Marks.{mark_by}
use Rattle.marking.proofs.marks.marks_by_line.Given as goal

abbrev pub invariant-loop-l : goal.invariant-loop-l
invariant-loop-l l = (length l.by_line ≡ line_room)
    × ((j : ℕ) → j < line_room → get_or l.by_line j 0 ≡ pick (ltb j l.l) (mark_by l.trail.marks l.trail.len (get_or l.places j 0)) unmarked)
