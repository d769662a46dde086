-- `trail::mark_at` meets its contract.
-- Assumes nothing.
use borrow.Author.Tests.{lt-ltb, le-ltb}
use mathlib.Core.Path.{sym}
use Rattle.counting.proofs.Joined.{pick_true, pick-false}
use Rattle.trail.specs.Trail.{mark_or}
use Rattle.trail.proofs.mark_at.Goals as goal

pub returns-then-i-lt-MARK_ROOM : goal.returns-then-i-lt-MARK_ROOM
unfolding mark_or
returns-then-i-lt-MARK_ROOM c = sym (pick_true _ 0 (lt-ltb _ _ c.if-i-lt-MARK_ROOM.true))

pub returns-else-i-lt-MARK_ROOM : goal.returns-else-i-lt-MARK_ROOM
unfolding mark_or
returns-else-i-lt-MARK_ROOM c = sym (pick-false _ 0 (le-ltb _ _ c.if-i-lt-MARK_ROOM.false))
