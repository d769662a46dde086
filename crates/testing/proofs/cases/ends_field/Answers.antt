-- `testing::cases::ends_field` meets its contract.
-- Assumes nothing.
use Rattle.std.proofs.lemmas.Bool.{eq-eqb, ne_eqb}
use Rattle.counting.specs.Tests.{◌or◌}
use Rattle.testing.proofs.cases.ends_field.Goals as goal

pub returns-then-letter-eq124 : goal.returns-then-letter-eq124
unfolding ◌or◌
returns-then-letter-eq124 c = simp (eq-eqb _ _ c.if-letter-eq124.true)

pub returns-else-letter-eq124 : goal.returns-else-letter-eq124
unfolding ◌or◌
returns-else-letter-eq124 c = simp (ne_eqb _ _ c.if-letter-eq124.false)
