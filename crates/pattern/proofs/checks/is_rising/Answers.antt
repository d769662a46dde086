-- `pattern::is_rising` meets its contract. The rows tell, or else the columns.
-- Assumes nothing.
use mathlib.Core.Path.{sym, ◌∙◌}
use borrow.Author.Tests.{ne_eqb}
use Rattle.pattern.proofs.Verdicts.{rises-first, rises-by-row, rises-by_column, rises-not}
use Rattle.pattern.proofs.checks.is_rising.Goals as goal

pub returns-then-t-eq0 : goal.returns-then-t-eq0
returns-then-t-eq0 c = sym (rises-first _ _ c.if-t-eq0.true)

pub returns-then-before-row : goal.returns-then-before-row
returns-then-before-row c = sym (rises-by-row _ _ _ _ c.if-t-eq0.false c.row_of-before.ensures c.row_of-row.ensures c.if-before-row.true)

pub returns-then-before-row-2 : goal.returns-then-before-row-2
returns-then-before-row-2 c = sym (rises-by_column _ _ _ _ _ _ c.if-t-eq0.false c.row_of-before.ensures c.row_of-row.ensures c.if-before-row-2.true c.column_of.ensures c.column_of-then-before-row-2.ensures)

pub returns-else-before-row-2 : goal.returns-else-before-row-2
returns-else-before-row-2 c = ne_eqb _ _ c.if-before-row-2.false ∙ sym (rises-not _ _ _ _ c.if-t-eq0.false c.row_of-before.ensures c.row_of-row.ensures c.if-before-row.false c.if-before-row-2.false)
