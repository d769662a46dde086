-- `state::no_search` meets its contract.
-- Assumes nothing.
use Rattle.model.specs.State.{is_found, best_or, search_of, no_record}
use Rattle.state.proofs.holding.no_search.Goals as goal

pub returns : goal.returns
unfolding search_of is_found best_or
returns c = cc
