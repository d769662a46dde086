-- `answering::printing::no_input` meets its contract.
-- Assumes nothing.
use mathlib.Core.Path.{refl}
use Rattle.answering.specs.Printing.{no_input}
use Rattle.answering.proofs.printing.no_input.Goals as goal

pub returns : goal.returns
unfolding no_input
returns c = refl
