-- `testing::cases::is_digit` meets its contract: std joins the same two tests.
-- Assumes nothing.
use Rattle.std.proofs.Common.{◌≡◌, Bool, true, false, ◌&&◌, refl, ◌∙◌}
use Rattle.counting.specs.Tests.{◌and◌}
use Rattle.testing.proofs.cases.is_digit.Goals as goal

both_joined : (a b : Bool) → a && b ≡ a and b
unfolding ◌and◌
both_joined true b = refl
both_joined false b = refl

pub returns : goal.returns
returns c = c.is_ascii_digit.ensures.value ∙ both_joined _ _
