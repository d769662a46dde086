-- `pattern::entries_verdict` meets its contract. The loop's invariant: the nonzeros passed are accepted.
-- Assumes nothing.
use mathlib.Core.Path.{◌≡◌}
use Rattle.model.specs.Calls.{entry_verdict}
use Rattle.model.specs.Refusal.{accepted, each_verdict}
use Rattle.pattern.proofs.checks.entries_verdict.Given as goal

abbrev pub invariant-loop-t : goal.invariant-loop-t
invariant-loop-t l = each_verdict (entry_verdict l.m l.n l.list) l.t ≡ accepted
