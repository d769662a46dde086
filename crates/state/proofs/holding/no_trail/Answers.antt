-- `state::no_trail` meets its contract.
-- Assumes nothing.
use Rattle.model.specs.State.{trail_of}
use Rattle.state.proofs.holding.no_trail.Goals as goal

pub returns : goal.returns
unfolding trail_of
returns c = cc
