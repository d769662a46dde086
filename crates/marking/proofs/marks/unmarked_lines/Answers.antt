-- `marking::marks::unmarked_lines` meets its contract.
-- Assumes nothing.
use mathlib.Core.Path.{refl}
use Rattle.marking.specs.Marks.{unmarked_lines}
use Rattle.marking.proofs.marks.unmarked_lines.Goals as goal

pub returns : goal.returns
unfolding unmarked_lines
returns c = refl
