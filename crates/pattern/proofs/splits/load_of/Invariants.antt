-- `pattern::load_of` meets its contract. The loop's invariant: the load is the count of the nonzeros passed that are in the part.
-- Assumes nothing.
use mathlib.Core.Path.{◌≡◌}
use Prim.Native.Nat.{◌≤◌}
use Rattle.counting.specs.Sums.{count}
use Rattle.pattern.specs.Splits.{in_part}
use Rattle.pattern.proofs.splits.load_of.Given as goal

abbrev pub invariant-loop-t : goal.invariant-loop-t
invariant-loop-t l = (l.load ≤ l.t) × (l.load ≡ count (in_part l.parts l.part) l.t)
