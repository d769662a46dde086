-- `scanning::stretch_end` meets its contract. The loop's invariant: the stretch ends where it would from the place reached.
-- Assumes nothing.
use Rattle.std.proofs.Common.{◌≡◌}
use Rattle.scanning.specs.Lines.{stretch_end}
use Rattle.scanning.proofs.lines.stretch_end.Given as goal

abbrev pub invariant-loop-i : goal.invariant-loop-i
invariant-loop-i l = stretch_end l.stretch l.text l.i l.stop ≡ stretch_end l.stretch l.text l.at l.stop
