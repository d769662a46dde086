-- `pattern::cuts_of` meets its contract. The loop's invariant: the count of the lines passed that are held in both lists.
-- Assumes nothing.
use mathlib.Core.Path.{◌≡◌}
use Prim.Native.Nat.{◌≤◌}
use Rattle.counting.specs.Sums.{count}
use Rattle.pattern.specs.Splits.{both_held}
use Rattle.pattern.proofs.splits.cuts_of.Given as goal

abbrev pub invariant-loop-l : goal.invariant-loop-l
invariant-loop-l l = (l.cuts ≤ l.l) × (l.cuts ≡ count (both_held l.zeros l.ones) l.l)
