-- `state::best_or_none` meets its contract.
-- Assumes nothing.
use mathlib.Core.Path.{sym, ◌∙◌}
use Rattle.counting.proofs.Joined.{pick_true, pick-false}
use Rattle.state.specs.Holding.{best_to}
use Rattle.state.proofs.holding.best_or_none.Goals as goal

pub returns-then-found : goal.returns-then-found
unfolding best_to
returns-then-found c = c.cleared.ensures ∙ sym (pick_true _ _ c.if-found.true)

pub returns-else-found : goal.returns-else-found
unfolding best_to
returns-else-found c = c.no_trail.ensures ∙ sym (pick-false _ _ c.if-found.false)
