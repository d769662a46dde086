-- Laws of a number's decimal digits, from the last on, and how many they are.
-- Assumes nothing.
use mathlib.Core.List.{List, [], ◌∷◌, ◌++◌}
use mathlib.Core.Path.{◌≡◌, refl, ◌∙◌, ap}
use Prim.Native.Nat.{ℕ, zero, suc, ◌+◌, ◌-◌, ◌*◌, ◌/◌, ◌%◌, ◌^◌, ◌≤◌, ◌<◌}
use native.Mathlib.Nat.{pow-suc, pow-zero, pow-le-pow_right}
use native.Mathlib.Numerals.{add-one}
use native.Mathlib.Omega.{arith}
use lib.Dec.{ltb}
use lib.ListN.{length, length-append}
use borrow.Author.Tests.{ltb-true, ltb-false}
use Rattle.counting.proofs.Joined.{by_test, no_way, pick_true, pick-false}
use Rattle.writing.specs.Written.{decimals}

pub decimals-zero : (n : ℕ) → decimals 0 n ≡ []
unfolding decimals
decimals-zero n = refl

-- the last digit alone, or after those of a tenth: what holds of both holds of a number's digits
pub decimals_either :
    (P : List ℕ → Type 0) (k n : ℕ) → (n < 10 → P ((48 + n % 10) ∷ [])) → (10 ≤ n → P (decimals k (n / 10) ++ ((48 + n % 10) ∷ []))) →
    P (decimals (suc k) n)
unfolding decimals
decimals_either P k n alone after =
    by_test
    (ltb n 10)
    (λ e. rw (pick_true [] (decimals k (n / 10)) e) (alone (ltb-true n 10 e)))
    (λ e. rw (pick-false [] (decimals k (n / 10)) e) (after (ltb-false n 10 e)))

-- a digit more
pub digit_after : (digits : List ℕ) (d : ℕ) → length (digits ++ (d ∷ [])) ≡ suc (length digits)
digit_after digits d = length-append digits (d ∷ []) ∙ add-one (length digits)

-- every number has a digit, and so many digits are so many bytes at most
pub decimals-some : (k n : ℕ) → 1 ≤ length (decimals (suc k) n)
decimals-some k n =
    decimals_either (λ x. 1 ≤ length x) k n (λ l. omega arith) (λ l. omega (arith, digit_after (decimals k (n / 10)) (48 + n % 10)))

pub decimals_short : (k n : ℕ) → length (decimals k n) ≤ k
decimals_short zero n = omega (arith, ap length (decimals-zero n))
decimals_short (suc k) n =
    decimals_either
    (λ x. length x ≤ suc k)
    k
    n
    (λ l. omega arith)
    (λ l. omega (arith, digit_after (decimals k (n / 10)) (48 + n % 10), decimals_short k (n / 10)))

-- a number below a power of ten has no more digits
pub decimals_fit : (k j n : ℕ) → n < 10 ^ suc j → length (decimals k n) ≤ suc j
decimals_fit zero j n l = omega (arith, ap length (decimals-zero n))
decimals_fit (suc k) zero n l =
    decimals_either (λ x. length x ≤ 1) k n (λ s. omega arith) (λ s. no_way (omega (arith, pow-suc 10 0, pow-zero 10)))
decimals_fit (suc k) (suc j) n l =
    decimals_either
    (λ x. length x ≤ suc (suc j))
    k
    n
    (λ s. omega arith)
    (λ s. omega (arith, digit_after (decimals k (n / 10)) (48 + n % 10), decimals_fit k j (n / 10) (omega (arith, pow-suc 10 (suc j)))))

-- and is below the power of ten of its digits, so one that reaches a power has a digit more
pub decimals_below : (k n : ℕ) → n < 10 ^ k → n < 10 ^ length (decimals k n)
decimals_below zero n l = rw decimals-zero l
decimals_below (suc k) n l =
    decimals_either
    (λ x. n < 10 ^ length x)
    k
    n
    (λ s. s)
    (λ s. let before = decimals k (n / 10) in
    let power : 10 ^ length (before ++ ((48 + n % 10) ∷ [])) ≡ 10 ^ length before * 10 = ap (λ x. 10 ^ x) (digit_after before (48 + n % 10)) ∙ pow-suc 10 (length before) in
    omega (arith, decimals_below k (n / 10) (omega (arith, pow-suc 10 k))))

decimals_reach : (k j n : ℕ) → n < 10 ^ k → 10 ^ j ≤ n → suc j ≤ length (decimals k n)
decimals_reach k j n l r =
    by_test
    (ltb j (length (decimals k n)))
    (λ e. ltb-true j (length (decimals k n)) e)
    (λ e. let up : 10 ^ length (decimals k n) ≤ 10 ^ j = pow-le-pow_right (omega arith) (ltb-false j (length (decimals k n)) e) in
    no_way (omega (arith, decimals_below k n l)))

-- digits counted one by one, with the power of ten of those counted
pub digit_more : (n count : ℕ) → n < 10 ^ 20 → 10 ^ count ≤ n → count + 1 ≤ length (decimals 20 n)
digit_more n count l r = omega (arith, decimals_reach 20 count n l r)

pub digit_last : (n count : ℕ) → 1 ≤ count → count ≤ length (decimals 20 n) → n < 10 ^ count → count ≡ length (decimals 20 n)
digit_last n count some l b =
    let e : suc (count - 1) ≡ count = omega arith in
    omega (arith, decimals_fit 20 (count - 1) n (rw e b))

pub ruleset digits = (arith, decimals-some, decimals_short, digit_more, digit_last)
