-- `running::kept::Kept::place_all` meets its contract. The loop's invariant: what is kept is that of the marks of the lines passed.
-- Assumes nothing.
use mathlib.Core.Bool.{true}
use mathlib.Core.List.{[]}
use mathlib.Core.Path.{◌≡◌}
use Rattle.model.specs.declared.Caps.{Caps}
use Rattle.model.specs.Pattern.{lines}
use Rattle.model.specs.Marking.{marking, valid}
use Rattle.pattern.specs.Matrix.{pattern_in}
use Rattle.weighing.specs.Cells.{marking_in}
use Rattle.running.specs.Kept.{Keeps}
use Rattle.running.specs.Laying.{first_marks}
use Rattle.running.proofs.kept.Kept.place_all.Given as goal

abbrev pub invariant-loop-l : goal.invariant-loop-l
invariant-loop-l l = (caps : Caps) → l.end ≡ lines (pattern_in l.crossed.matrix) → valid (pattern_in l.crossed.matrix) caps (marking_in l.given) ≡ true →
    Keeps (pattern_in l.crossed.matrix) (marking (pattern_in l.crossed.matrix) []) l.initial.self → Keeps (pattern_in l.crossed.matrix) (first_marks (marking_in l.given) l.l) l.self
