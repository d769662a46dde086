-- `testing::laying::lay_marks` meets its contract. The loop's invariant: what is left to lay out ends with the same page.
-- Assumes nothing.
use Rattle.std.proofs.Common.{◌≡◌, drop}
use Rattle.testing.specs.Laid.{marks_laid}
use Rattle.testing.proofs.laying.lay_marks.Given as goal

abbrev pub invariant-loop-i : goal.invariant-loop-i
invariant-loop-i l = marks_laid l.page l.i (drop l.i l.letters) ≡ marks_laid l.initial.page 0 l.letters
