-- `running::kinds::kind_of` meets its contract.
-- Assumes nothing.
use mathlib.Core.Path.{◌∙◌, ap}
use Rattle.keeping.specs.Kinds.{kind_number, kind_of}
use Rattle.running.proofs.kinds.kind_of.Goals as goal

pub returns : goal.returns
unfolding kind_of
returns c = c.kind_number.ensures ∙ ap kind_number c.condition_of.ensures
