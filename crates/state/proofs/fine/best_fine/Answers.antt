-- `state::fine::best_fine` meets its contract.
-- Assumes nothing.
use Rattle.counting.specs.Tests.{◌and◌, pick}
use Rattle.state.specs.StateBy.{best_by}
use Rattle.state.proofs.fine.best_fine.Goals as goal

pub returns-then-search : goal.returns-then-search
unfolding best_by pick
returns-then-search c = simp (c.if-search.true, c.full_fine.ensures, c.from.ensures)

pub returns-then-not-search : goal.returns-then-not-search
unfolding best_by pick ◌and◌
returns-then-not-search c = simp (c.if-search.false, c.if-not-search.true, c.from-then-not-search.ensures)

pub returns-else-not-search : goal.returns-else-not-search
unfolding best_by pick ◌and◌
returns-else-not-search c = simp (c.if-search.false, c.if-not-search.false)
