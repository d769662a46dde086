-- `pattern::unequal_caps` meets its contract.
-- Assumes nothing.
use mathlib.Core.Path.{refl}
use Rattle.model.specs.Split.{unequal}
use Rattle.pattern.proofs.cap.unequal_caps.Goals as goal

pub returns : goal.returns
unfolding unequal
returns c = refl
