-- Laws of a table of powers of ten.
-- Assumes nothing.
use mathlib.Core.List.{List, [], ◌∷◌}
use mathlib.Core.Path.{◌≡◌, ◌∙◌, ap}
use Prim.Native.Nat.{ℕ, zero, suc, ◌+◌, ◌^◌, ◌<◌}
use native.Mathlib.Nat.{zero-add}
use native.Mathlib.Omega.{arith}
use lib.ListN.{get_or}
use Rattle.counting.proofs.Joined.{no_way}

-- 10^i, 10^(i + 1), .., so many of them
unfoldable pub powers_from : ℕ → ℕ → List ℕ
powers_from i zero = []
powers_from i (suc n) = 10 ^ i ∷ powers_from (suc i) n

powers_at : (i n k : ℕ) → k < n → get_or (powers_from i n) k 0 ≡ 10 ^ (i + k)
unfolding powers_from
powers_at i zero k l = no_way (omega arith)
powers_at i (suc n) zero l =
    let e : i ≡ i + 0 = omega arith in
    ap (λ x. 10 ^ x) e
powers_at i (suc n) (suc k) l =
    let e : suc i + k ≡ i + suc k = omega arith in
    powers_at (suc i) n k (omega arith) ∙ ap (λ x. 10 ^ x) e

-- a table that is the same has 10^k at k
pub power_at : (table : List ℕ) (n : ℕ) → table ≡ powers_from 0 n → (k : ℕ) → k < n → get_or table k 0 ≡ 10 ^ k
power_at table n e k l = ap (λ t. get_or t k 0) e ∙ powers_at 0 n k l ∙ ap (λ x. 10 ^ x) (zero-add k)
