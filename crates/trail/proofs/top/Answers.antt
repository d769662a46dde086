-- `trail::top` meets its contract.
-- Assumes nothing.
use borrow.Author.Tests.{lt-ltb, le-ltb}
use mathlib.Core.Path.{sym}
use Rattle.counting.proofs.Joined.{pick_true, pick-false}
use Rattle.trail.specs.Trail.{top_of}
use Rattle.trail.proofs.top.Goals as goal

pub returns-then-len-gt0 : goal.returns-then-len-gt0
unfolding top_of
returns-then-len-gt0 c = sym (pick_true _ _ (lt-ltb _ _ c.if-len-gt0.true))

pub returns-else-len-gt0 : goal.returns-else-len-gt0
unfolding top_of
returns-else-len-gt0 c = sym (pick-false _ _ (le-ltb _ _ c.if-len-gt0.false))
