-- `matching::augmenting::Ground::has_conflict` meets its contract. The loop's invariant: the row's columns are those of what is left of its nonzeros.
-- Assumes nothing.
use mathlib.Core.Path.{◌≡◌}
use Prim.Native.Nat.{◌-◌}
use Rattle.matching.specs.Augmenting.{ground_in, columns_in, columns_from}
use Rattle.matching.proofs.augmenting.Ground.has_conflict.Given as goal

abbrev pub invariant-loop-t : goal.invariant-loop-t
invariant-loop-t l = columns_in (ground_in l.self) l.i ≡ columns_from (ground_in l.self) l.i (l.end - l.t) l.t
