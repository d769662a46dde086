-- `state::fine::full_fine` meets its contract.
-- Assumes nothing.
use borrow.Author.Tests.{eq-eqb}
use mathlib.Core.Path.{◌≡◌, sym, ◌∙◌}
use native.Mathlib.Omega.{arith}
use Rattle.counting.specs.Tests.{◌and◌}
use Rattle.state.specs.StateBy.{full_by}
use Rattle.state.proofs.fine.full_fine.Goals as goal

pub returns-then-are_marks : goal.returns-then-are_marks
unfolding full_by ◌and◌
returns-then-are_marks c =
    let whole : c.args.best.len ≡ c.args.k = omega arith in
    simp (
      eq-eqb _ _ whole,
      c.if-not-valid.false,
      sym c.are_marks.ensures ∙ c.if-are_marks.true,
      c.cuts_before.ensures,
    )

pub returns-else-are_marks : goal.returns-else-are_marks
unfolding full_by ◌and◌
returns-else-are_marks c =
    let whole : c.args.best.len ≡ c.args.k = omega arith in
    simp (
      eq-eqb _ _ whole,
      c.if-not-valid.false,
      sym c.are_marks.ensures ∙ c.if-are_marks.false,
      c.if-are_marks.false,
    )
