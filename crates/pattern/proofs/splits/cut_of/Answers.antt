-- `pattern::cut_of` meets its contract. A test's number, by the two tests.
-- Assumes nothing.
use mathlib.Core.Path.{sym, ◌∙◌}
use Rattle.counting.specs.Tests.{◌and◌}
use Rattle.counting.proofs.Joined.{from_bool_is}
use Rattle.pattern.specs.Splits.{both_held}
use Rattle.pattern.proofs.splits.cut_of.Goals as goal
use Rattle.pattern.proofs.splits.cut_of.Goals.{then-is_held, else-is_held}

pub returns : goal.returns
unfolding both_held ◌and◌
returns c =
    c.from.ensures ∙ from_bool_is _
    ∙ elim c.if-is_held.branch [
      | then-is_held w ↦ rw (w.from-is, sym c.is_held.ensures, w.if-is_held.true, w.is_held-then-is_held.ensures)
      | else-is_held w ↦ rw (w.from-is, sym c.is_held.ensures, w.if-is_held.false)
    ]
