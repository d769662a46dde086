-- `pattern::held_lines` meets its contract: none are held at first, and then those of one nonzero more.
-- Assumes nothing.
use mathlib.Core.Path.{refl}
use Rattle.pattern.specs.Splits.{no_lines, held_lines}
use Rattle.pattern.proofs.Lines.{held_more}
use Rattle.pattern.proofs.splits.held_lines.Goals as goal

pub loop-t-init : goal.loop-t-init
unfolding held_lines no_lines
loop-t-init c = refl

pub loop-t-preserved : goal.loop-t-preserved
loop-t-preserved c = held_more _ _ _ _ _ _ _ c.loop-t.invariant c.hold_lines.ensures
