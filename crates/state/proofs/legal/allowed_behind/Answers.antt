-- `state::legal::allowed_behind` meets its contract.
-- Assumes nothing.
use mathlib.Core.Path.{sym, ◌∙◌}
use Rattle.counting.specs.Tests.{◌or◌}
use Rattle.state.proofs.legal.allowed_behind.Goals as goal

pub returns-then-is_part : goal.returns-then-is_part
unfolding ◌or◌
returns-then-is_part c = simp (c.if-is_part.true, sym c.is_part.ensures ∙ c.if-is_part.true)

pub returns-else-is_part : goal.returns-else-is_part
unfolding ◌or◌
returns-else-is_part c = simp (sym c.is_part.ensures ∙ c.if-is_part.false)
