-- `packing::packed` meets its contract. The loop's invariant: the marks passed are packed, if all are marks.
-- Assumes nothing.
use Rattle.packing.specs.Packed.{Packs}
use Rattle.packing.proofs.Copying.{first_marks, MarksTo}
use Rattle.packing.proofs.packed.Given as goal

abbrev pub invariant-loop-mark : goal.invariant-loop-mark
invariant-loop-mark l = MarksTo l.fn.trail.marks l.fn.trail.len → Packs l.t (first_marks l.fn.trail.marks l.mark-index)
