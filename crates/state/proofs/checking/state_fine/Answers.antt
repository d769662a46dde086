-- `state::checking::state_fine` meets its contract. The tables of an accepted list are made for sizes in range.
-- Assumes nothing.
use borrow.Author.Tests.{le-leb}
use mathlib.Core.Path.{◌∙◌}
use native.Mathlib.Omega.{arith}
use Rattle.counting.proofs.Joined.{no_way, clash}
use Rattle.state.proofs.checking.state_fine.Goals as goal
use Rattle.state.proofs.checking.state_fine.Goals.{then-from-le-LINE_LIMIT, else-from-le-LINE_LIMIT}

pub returns-then-from-le-NONZERO_LIMIT : goal.returns-then-from-le-NONZERO_LIMIT
returns-then-from-le-NONZERO_LIMIT c = c.ranged_fine.ensures

pub returns-else-from-le-NONZERO_LIMIT : goal.returns-else-from-le-NONZERO_LIMIT
returns-else-from-le-NONZERO_LIMIT c starts ready =
    elim c.if-from-le-LINE_LIMIT.branch [
      | then-from-le-LINE_LIMIT w ↦
          clash
          (w.value-is ∙ le-leb _ _ (omega (arith, ready.listed.small, w.from-then-from-le-LINE_LIMIT.ensures)))
          c.if-from-le-NONZERO_LIMIT.false
      | else-from-le-LINE_LIMIT w ↦ no_way (omega (arith, ready.listed.rows_small, c.from.ensures, w.if-from-le-LINE_LIMIT.false))
    ]
