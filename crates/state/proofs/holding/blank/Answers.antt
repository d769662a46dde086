-- `state::holding::blank` meets its contract.
-- Assumes nothing.
use Rattle.model.specs.Walk.{fresh}
use Rattle.model.specs.State.{is_found, best_or, search_of, no_record}
use Rattle.state.proofs.holding.blank.Goals as goal

pub returns : goal.returns
unfolding search_of fresh is_found best_or
returns c = simp c.no_search.ensures
