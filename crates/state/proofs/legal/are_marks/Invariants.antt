-- `state::are_marks` meets its contract. The invariant of the loop: the marks before `i` are legal.
-- Assumes nothing.
use mathlib.Core.Bool.{true}
use mathlib.Core.Path.{◌≡◌}
use Prim.Native.Nat.{◌≤◌}
use Rattle.state.specs.Legal.{marks_legal}
use Rattle.state.proofs.legal.are_marks.Given as goal

abbrev pub invariant-loop-i : goal.invariant-loop-i
invariant-loop-i l = (l.i ≤ l.end) × (marks_legal l.marks l.i ≡ true)
