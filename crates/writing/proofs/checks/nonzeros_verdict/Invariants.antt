-- `writing::checks::nonzeros_verdict` meets its contract. The loop's invariant: the nonzeros passed are accepted.
-- Assumes nothing.
use Rattle.std.proofs.Common.{◌≡◌}
use Rattle.model.specs.Refusal.{accepted, each_verdict}
use Rattle.writing.specs.Writing.{nonzero_verdict}
use Rattle.writing.proofs.checks.nonzeros_verdict.Given as goal

abbrev pub invariant-loop-t : goal.invariant-loop-t
invariant-loop-t l = each_verdict (nonzero_verdict l.m l.n l.list l.parts) l.t ≡ accepted
