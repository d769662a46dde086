-- `state::fine::counts_fine` meets its contract.
-- Assumes nothing.
use borrow.Author.Tests.{le-leb, lt-leb}
use Rattle.counting.specs.Tests.{◌and◌}
use Rattle.model.specs.State.{counts_fine}
use Rattle.state.proofs.fine.counts_fine.Goals as goal

pub returns-then-tries-le-TRIES_LIMIT : goal.returns-then-tries-le-TRIES_LIMIT
unfolding counts_fine ◌and◌
returns-then-tries-le-TRIES_LIMIT c = simp (le-leb _ _ c.if-tries-le-TRIES_LIMIT.true)

pub returns-else-tries-le-TRIES_LIMIT : goal.returns-else-tries-le-TRIES_LIMIT
unfolding counts_fine ◌and◌
returns-else-tries-le-TRIES_LIMIT c = simp (lt-leb _ _ c.if-tries-le-TRIES_LIMIT.false)
