-- `pattern::is_held` meets its contract.
-- Assumes nothing.
use mathlib.Core.Path.{ap}
use lib.Dec.{eqb}
use Rattle.pattern.specs.Splits.{is_held}
use Rattle.pattern.proofs.splits.is_held.Goals as goal

pub returns : goal.returns
unfolding is_held
returns c = ap (λ x. eqb x 1) c.byte_at.ensures
