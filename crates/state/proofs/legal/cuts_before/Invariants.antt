-- `state::cuts_before` meets its contract. The invariant of the loop: the cuts before `i` are counted.
-- Assumes nothing.
use mathlib.Core.Path.{◌≡◌}
use Prim.Native.Nat.{◌≤◌}
use Rattle.state.specs.Legal.{cuts_in}
use Rattle.state.proofs.legal.cuts_before.Given as goal

abbrev pub invariant-loop-i : goal.invariant-loop-i
invariant-loop-i l = (l.i ≤ l.end) × (l.cuts ≤ l.i) × (l.cuts ≡ cuts_in l.marks l.i)
