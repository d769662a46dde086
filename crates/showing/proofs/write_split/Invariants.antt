-- `showing::write_split` meets its contract. The invariant: the parts of the nonzeros passed are written, and the counter is the number of those filled in.
-- Assumes nothing.
use Rattle.pattern.specs.Matrix.{pattern_in}
use Rattle.weighing.specs.Cells.{marking_in}
use Rattle.showing.proofs.Written.{WrittenTo}
use Rattle.showing.proofs.write_split.Given as goal

abbrev pub invariant-loop-t : goal.invariant-loop-t
invariant-loop-t l =
    WrittenTo (pattern_in l.matrix) l.caps (marking_in l.marks) l.zero l.t l.filled l.initial.parts l.parts
