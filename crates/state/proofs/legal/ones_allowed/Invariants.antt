-- `state::ones_allowed` meets its contract. The invariant of the loop: the marks before `i` are as asked, and `allowed` tells whether mark 1 is allowed at `i`.
-- Assumes nothing.
use mathlib.Core.Bool.{true}
use mathlib.Core.Path.{◌≡◌}
use Prim.Native.Nat.{◌≤◌}
use Rattle.trail.specs.Trail.{one_at}
use Rattle.state.specs.Legal.{ones_legal}
use Rattle.state.proofs.legal.ones_allowed.Given as goal

abbrev pub invariant-loop-i : goal.invariant-loop-i
invariant-loop-i l = (l.i ≤ l.end) × (ones_legal l.first l.marks l.i ≡ true) × (l.allowed ≡ one_at l.first l.marks l.i)
