-- `state::no_marks` meets its contract.
-- Assumes nothing.
use mathlib.Core.Path.{refl}
use Rattle.model.specs.State.{array_of}
use Rattle.state.proofs.holding.no_marks.Goals as goal

pub returns : goal.returns
unfolding array_of
returns c = refl
