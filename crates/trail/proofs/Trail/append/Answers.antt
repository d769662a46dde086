-- `trail::Trail::append` meets its contract.
-- Assumes nothing.
use borrow.Author.Tests.{lt-ltb, le-ltb}
use mathlib.Core.Path.{sym}
use Rattle.counting.proofs.Joined.{pick_true, pick-false}
use Rattle.trail.specs.Trail.{appended}
use Rattle.trail.proofs.Trail.append.Goals as goal

pub returns-then-at-lt-MARK_ROOM : goal.returns-then-at-lt-MARK_ROOM
unfolding appended
returns-then-at-lt-MARK_ROOM c = sym (pick_true _ _ (lt-ltb _ _ c.if-at-lt-MARK_ROOM.true))

pub returns-else-at-lt-MARK_ROOM : goal.returns-else-at-lt-MARK_ROOM
unfolding appended
returns-else-at-lt-MARK_ROOM c = sym (pick-false _ _ (le-ltb _ _ c.if-at-lt-MARK_ROOM.false))
