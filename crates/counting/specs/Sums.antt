-- Sums, counts and tests over the numbers below a bound.
-- Assumes nothing.
use Rattle.std.specs.Prelude.{Bool, ℕ, zero, suc, ◌+◌, ltb}
use Rattle.counting.specs.Tests.{bit}

-- f 0 + f 1 + .. + f (n - 1)
unfoldable pub sum : (ℕ → ℕ) → ℕ → ℕ
sum f zero = 0
sum f (suc n) = sum f n + f n

-- how many numbers below n pass the test
abbrev pub count : (ℕ → Bool) → ℕ → ℕ
count p n = sum (λ t. bit (p t)) n

-- some number below n passes the test
unfoldable pub any : (ℕ → Bool) → ℕ → Bool
any p n = ltb 0 (count p n)
