-- `pattern::part_bytes_verdict` meets its contract. The loop's invariant: the bytes passed are accepted.
-- Assumes nothing.
use mathlib.Core.Path.{◌≡◌}
use Rattle.model.specs.Refusal.{accepted, each_verdict}
use Rattle.pattern.specs.Measures.{part_verdict}
use Rattle.pattern.proofs.measures.part_bytes_verdict.Given as goal

abbrev pub invariant-loop-t : goal.invariant-loop-t
invariant-loop-t l = each_verdict (part_verdict l.parts) l.t ≡ accepted
