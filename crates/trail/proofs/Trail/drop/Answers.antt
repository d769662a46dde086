-- `trail::Trail::drop` meets its contract.
-- Assumes nothing.
use borrow.Author.Tests.{lt-ltb, le-ltb}
use mathlib.Core.Path.{sym, ◌∙◌, ap}
use Rattle.counting.proofs.Joined.{pick_true, pick-false}
use Rattle.trail.specs.Trail.{dropped, dropped_at}
use Rattle.trail.proofs.Trail.drop.Goals as goal

pub returns-then-at-lt-MARK_ROOM : goal.returns-then-at-lt-MARK_ROOM
unfolding dropped dropped_at
returns-then-at-lt-MARK_ROOM c =
    sym (pick_true _ _ (lt-ltb _ _ c.if-at-lt-MARK_ROOM.true)) ∙ ap (dropped_at c.args.self) c.top-at.ensures

pub returns-else-at-lt-MARK_ROOM : goal.returns-else-at-lt-MARK_ROOM
unfolding dropped dropped_at
returns-else-at-lt-MARK_ROOM c =
    sym (pick-false _ _ (le-ltb _ _ c.if-at-lt-MARK_ROOM.false)) ∙ ap (dropped_at c.args.self) c.top-at.ensures
