-- `running::kinds::shift_near` meets its contract. The loop's invariant: line y is counted, once more or once less, for the crossing lines before i in the table.
-- Assumes nothing.
use lib.ListN.{get_or}
use Rattle.keeping.specs.Moves.{Nears}
use Rattle.keeping.proofs.Standing.{standing}
use Rattle.running.specs.Ways.{Way}
use Rattle.running.proofs.kinds.shift_near.Given as goal

abbrev pub invariant-loop-i : goal.invariant-loop-i
invariant-loop-i l = Way l.up (Nears l.kind (standing l.cross (get_or l.starts l.y 0) l.i)) l.initial.tally l.tally
