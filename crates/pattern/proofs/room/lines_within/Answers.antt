-- `pattern::room::lines_within` meets its contract.
-- Assumes nothing.
use mathlib.Core.Path.{sym}
use Rattle.pattern.proofs.Within.{within_small, within_large}
use Rattle.pattern.proofs.room.lines_within.Goals as goal

pub returns-then-lines-lt-LINE_ROOM : goal.returns-then-lines-lt-LINE_ROOM
returns-then-lines-lt-LINE_ROOM c = sym (within_small _ c.if-lines-lt-LINE_ROOM.true)

pub returns-else-lines-lt-LINE_ROOM : goal.returns-else-lines-lt-LINE_ROOM
returns-else-lines-lt-LINE_ROOM c = sym (within_large _ c.if-lines-lt-LINE_ROOM.false)
