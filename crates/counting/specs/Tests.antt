-- Tests: how two of them are joined, and what a test picks.
-- Assumes nothing.
use Rattle.std.specs.Prelude.{Bool, true, false, ℕ}

infixl 35 ◌and◌
infixl 30 ◌or◌
-- both tests pass
unfoldable pub ◌and◌ : Bool → Bool → Bool
true and b = b
false and b = false

-- one of the tests passes, or both
unfoldable pub ◌or◌ : Bool → Bool → Bool
true or b = true
false or b = b

-- the first value where the test passes, the second where it fails
unfoldable pub pick : {A : Type 0} → Bool → A → A → A
pick true a b = a
pick false a b = b

-- 1 for a test that passes and 0 for one that fails
unfoldable pub bit : Bool → ℕ
bit true = 1
bit false = 0
