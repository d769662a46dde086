-- `pattern::held_lines` meets its contract. The loop's invariant: the lines of the nonzeros passed are held.
-- Assumes nothing.
use mathlib.Core.Path.{◌≡◌}
use Rattle.pattern.specs.Splits.{held_lines}
use Rattle.pattern.proofs.splits.held_lines.Given as goal

abbrev pub invariant-loop-t : goal.invariant-loop-t
invariant-loop-t l = l.held ≡ held_lines l.matrix.m l.matrix.list.now l.parts l.part l.t
