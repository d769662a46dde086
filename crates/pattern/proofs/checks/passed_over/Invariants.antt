-- `pattern::passed_over` meets its contract. The loop's invariant: the nonzeros so far are passed over.
-- Assumes nothing.
use Rattle.pattern.proofs.Passed.{Passed}
use Rattle.pattern.proofs.checks.passed_over.Given as goal

abbrev pub invariant-loop-t : goal.invariant-loop-t
invariant-loop-t l = Passed l.m l.n l.list l.t l.before
