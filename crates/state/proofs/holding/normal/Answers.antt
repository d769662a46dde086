-- `state::normal` meets its contract.
-- Assumes nothing.
use Rattle.state.specs.Holding.{normal_of}
use Rattle.state.proofs.holding.normal.Goals as goal

pub returns : goal.returns
unfolding normal_of
returns c = cc
