-- `pattern::caps_outside` meets its contract.
-- Assumes nothing.
use borrow.Author.Tests.{lt-ltb, le-ltb}
use Rattle.counting.specs.Tests.{◌or◌}
use Rattle.model.specs.Split.{caps_outside}
use Rattle.pattern.proofs.cap.caps_outside.Goals as goal

pub returns-then-caps-gt-CAP_LIMIT : goal.returns-then-caps-gt-CAP_LIMIT
unfolding caps_outside ◌or◌
returns-then-caps-gt-CAP_LIMIT c = simp (lt-ltb _ _ c.if-caps-gt-CAP_LIMIT.true)

pub returns-else-caps-gt-CAP_LIMIT : goal.returns-else-caps-gt-CAP_LIMIT
unfolding caps_outside ◌or◌
returns-else-caps-gt-CAP_LIMIT c = simp (le-ltb _ _ c.if-caps-gt-CAP_LIMIT.false)
