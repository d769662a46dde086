-- `state::legal::one_denied` meets its contract.
-- Assumes nothing.
use Rattle.counting.specs.Tests.{◌and◌}
use Rattle.state.specs.Legal.{one_denied}
use Rattle.state.proofs.legal.one_denied.Goals as goal

pub returns-then-not-allowed : goal.returns-then-not-allowed
unfolding one_denied ◌and◌
returns-then-not-allowed c = simp c.if-not-allowed.true

pub returns-else-not-allowed : goal.returns-else-not-allowed
unfolding one_denied ◌and◌
returns-else-not-allowed c = simp c.if-not-allowed.false
