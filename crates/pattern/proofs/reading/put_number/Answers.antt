-- `pattern::reading::put_number` meets its contract.
-- Assumes nothing.
use Rattle.model.specs.Pattern.{with_number}
use Rattle.pattern.proofs.reading.put_number.Goals as goal

pub returns : goal.returns
unfolding with_number
returns c = cc
