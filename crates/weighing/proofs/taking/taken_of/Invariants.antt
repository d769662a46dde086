-- `weighing::taking::taken_of` meets its contract. The invariant: the counts and the test are those of the nonzeros passed.
-- Assumes nothing.
use Prim.Native.Nat.{ℕ}
use Rattle.model.specs.Pattern.{pattern_of}
use Rattle.weighing.specs.Cells.{marking_in}
use Rattle.weighing.proofs.Taken.{TakenTo}
use Rattle.weighing.proofs.taking.taken_of.Given as goal

abbrev pub invariant-loop-t : goal.invariant-loop-t
invariant-loop-t l = (n : ℕ) → TakenTo (pattern_of l.matrix.m n l.matrix.nonzeros l.matrix.list.now) (marking_in l.marks) l.t l.zero l.one l.both
