-- The sum along a part of a table of lines, as a loop makes it.
-- Assumes nothing.
use mathlib.Core.List.{List}
use mathlib.Core.Path.{◌≡◌, ◌∙◌, ap}
use Prim.Native.Nat.{ℕ, suc, ◌+◌, ◌-◌, ◌≤◌, ◌<◌}
use native.Mathlib.Omega.{arith}
use lib.ListN.{get_or}
use Rattle.counting.specs.Sums.{sum}
use Rattle.counting.proofs.Summed.{sum-suc, sum-none, sum_eq, sum_more}
use Rattle.crossing.specs.Crossing.{along}

pub along-none : (cross : List ℕ) (f : ℕ → ℕ) (a : ℕ) → along cross f a a ≡ 0
unfolding along
along-none cross f a =
    let e : a - a ≡ 0 = omega arith in
    ap (sum (λ i. f (get_or cross (a + i) 0))) e ∙ sum-none (λ i. f (get_or cross (a + i) 0))

-- one line more at the end
pub along-more :
    (cross : List ℕ) (f : ℕ → ℕ) (a i : ℕ) → a ≤ i →
    along cross f a (i + 1) ≡ along cross f a i + f (get_or cross i 0)
unfolding along
along-more cross f a i b =
    let e : i + 1 - a ≡ suc (i - a) = omega arith in
    let d : a + (i - a) ≡ i = omega arith in
    ap (sum (λ j. f (get_or cross (a + j) 0))) e
    ∙ sum-suc (λ j. f (get_or cross (a + j) 0)) (i - a)
    ∙ ap (λ z. along cross f a i + f (get_or cross z 0)) d

-- two parts, one after the other
pub along-split :
    (cross : List ℕ) (f : ℕ → ℕ) (a i b : ℕ) → a ≤ i → i ≤ b →
    along cross f a b ≡ along cross f a i + along cross f i b
unfolding along
along-split cross f a i b g h =
    let e : b - a ≡ (i - a) + (b - i) = omega arith in
    ap (sum (λ j. f (get_or cross (a + j) 0))) e
    ∙ sum_more (λ j. f (get_or cross (a + j) 0)) (i - a) (b - i)
    ∙ ap
    (λ z. along cross f a i + z)
    (sum_eq
    (λ j. f (get_or cross (a + (i - a + j)) 0))
    (λ j. f (get_or cross (i + j) 0))
    (b - i)
    (λ j c. let d : a + (i - a + j) ≡ i + j = omega arith in ap (λ z. f (get_or cross z 0)) d))

-- the first line set apart
pub along-first :
    (cross : List ℕ) (f : ℕ → ℕ) (i b : ℕ) → i < b →
    along cross f i b ≡ f (get_or cross i 0) + along cross f (i + 1) b
along-first cross f i b h =
    omega (
      arith,
      along-split cross f i (i + 1) b (omega arith) (omega arith),
      along-more cross f i i (omega arith),
      along-none cross f i,
    )
