-- `answering::printing::no_output` meets its contract.
-- Assumes nothing.
use mathlib.Core.Path.{refl}
use Rattle.answering.specs.Printing.{no_output}
use Rattle.answering.proofs.printing.no_output.Goals as goal

pub returns : goal.returns
unfolding no_output
returns c = refl
