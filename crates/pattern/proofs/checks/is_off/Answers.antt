-- `pattern::is_off` meets its contract. The row tells, or else the column.
-- Assumes nothing.
use mathlib.Core.Path.{◌∙◌}
use Rattle.pattern.proofs.Verdicts.{off_by-row, off_by_column}
use Rattle.pattern.proofs.checks.is_off.Goals as goal

pub returns-then-m-from : goal.returns-then-m-from
returns-then-m-from c = off_by-row _ _ _ _ _ (c.from.ensures ∙ c.row_of.ensures) c.if-m-from.true

pub returns-else-m-from : goal.returns-else-m-from
returns-else-m-from c = off_by_column _ _ _ _ _ _ (c.from.ensures ∙ c.row_of.ensures) c.if-m-from.false (c.from-else-m-from.ensures ∙ c.column_of.ensures)
