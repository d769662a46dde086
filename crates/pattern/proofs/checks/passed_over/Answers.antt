-- `pattern::passed_over` meets its contract: one nonzero more lies in the matrix, in a later cell.
-- Assumes nothing.
use mathlib.Core.Path.{◌∙◌}
use native.Mathlib.Omega.{arith}
use Rattle.pattern.proofs.Passed.{passed_none, passed_more}
use Rattle.pattern.proofs.checks.passed_over.Goals as goal

pub loop-t-init : goal.loop-t-init
loop-t-init c = passed_none _ _ _

pub loop-t-preserved : goal.loop-t-preserved
loop-t-preserved c =
    let row = c.from-row.ensures ∙ c.row_of.ensures in
    let column = c.from-column.ensures ∙ c.column_of.ensures in
    passed_more
    c.requires.0
    c.requires.1
    c.loop-t.invariant
    (omega (arith, row, c.if-m-row.false))
    (omega (arith, column, c.if-n-column.false))
    (omega (arith, row, column, c.if-cell-before.false))
    _
    (omega (arith, row, column))
