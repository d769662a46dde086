-- `pattern::checks::is_split` meets its contract. The row's high byte tells, or else the column's.
-- Assumes nothing.
use mathlib.Core.Path.{ap}
use Prim.Native.Nat.{◌*◌}
use Rattle.pattern.proofs.Verdicts.{split-by-row, split-by_column}
use Rattle.pattern.proofs.checks.is_split.Goals as goal

pub returns-then-byte_at-gt1 : goal.returns-then-byte_at-gt1
returns-then-byte_at-gt1 c = split-by-row _ _ _ (ap (4 *◌) c.from-at.ensures) _ c.byte_at.ensures c.if-byte_at-gt1.true

pub returns-else-byte_at-gt1 : goal.returns-else-byte_at-gt1
returns-else-byte_at-gt1 c = split-by_column _ _ _ (ap (4 *◌) c.from-at.ensures) _ _ c.byte_at.ensures c.if-byte_at-gt1.false c.byte_at-else-byte_at-gt1.ensures
