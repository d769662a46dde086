-- `state::fine::trail_fine` meets its contract.
-- Assumes nothing.
use borrow.Author.Tests.{eq-eqb, ne_eqb, le-leb, lt-leb}
use mathlib.Core.Path.{sym, ◌∙◌}
use Rattle.counting.specs.Tests.{◌and◌}
use Rattle.state.specs.StateBy.{trail_by}
use Rattle.state.proofs.fine.trail_fine.Goals as goal
use Rattle.state.proofs.fine.trail_fine.Goals.{then-len-eq0-via-then-len-eq0, then-len-eq0-via-else-len-eq0+then-k-len, then-len-eq0-via-else-len-eq0+else-k-len+then-not-valid}

pub returns-then-complete : goal.returns-then-complete
unfolding trail_by
returns-then-complete c = simp c.if-complete.true

pub returns-then-len-eq0 : goal.returns-then-len-eq0
unfolding trail_by ◌and◌
returns-then-len-eq0 c =
    elim c.then-len-eq0.branch [
      | then-len-eq0-via-then-len-eq0 w ↦ simp (c.if-complete.false, eq-eqb _ _ w.if-len-eq0.true)
      | then-len-eq0-via-else-len-eq0+then-k-len w ↦
          simp (c.if-complete.false, ne_eqb _ _ w.if-len-eq0.false, lt-leb _ _ w.if-k-len.true)
      | then-len-eq0-via-else-len-eq0+else-k-len+then-not-valid w ↦
          simp (c.if-complete.false, ne_eqb _ _ w.if-len-eq0.false, le-leb _ _ w.if-k-len.false, w.if-not-valid.true)
    ]

pub returns-then-are_marks : goal.returns-then-are_marks
unfolding trail_by ◌and◌
returns-then-are_marks c =
    simp (
      c.if-complete.false,
      ne_eqb _ _ c.if-len-eq0.false,
      le-leb _ _ c.if-k-len.false,
      c.if-not-valid.false,
      sym c.are_marks.ensures ∙ c.if-are_marks.true,
      c.ones_allowed.ensures,
    )

pub returns-else-are_marks : goal.returns-else-are_marks
unfolding trail_by ◌and◌
returns-else-are_marks c =
    simp (
      c.if-complete.false,
      ne_eqb _ _ c.if-len-eq0.false,
      le-leb _ _ c.if-k-len.false,
      c.if-not-valid.false,
      sym c.are_marks.ensures ∙ c.if-are_marks.false,
      c.if-are_marks.false,
    )
