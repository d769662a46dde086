-- Laws of sums over the numbers below a bound.
-- Assumes nothing.
use mathlib.Core.Path.{◌≡◌, refl, sym, ◌∙◌, ap}
use mathlib.Core.Logic.{⊎_elim}
use Prim.Native.Nat.{ℕ, zero, suc, ◌+◌, ◌-◌, ◌*◌, ◌≤◌, ◌<◌}
use native.Mathlib.Nat.{eq-or-lt_of_le, le_of_suc-le-suc}
use native.Mathlib.Omega.{arith}
use Rattle.counting.specs.Sums.{sum}
use Rattle.counting.proofs.Joined.{no_way}

-- the last term set apart
pub sum-suc : (f : ℕ → ℕ) (n : ℕ) → sum f (suc n) ≡ sum f n + f n
unfolding sum
sum-suc f n = refl

pub sum-none : (f : ℕ → ℕ) → sum f 0 ≡ 0
unfolding sum
sum-none f = refl

pub sum_le : (f g : ℕ → ℕ) (n : ℕ) → ((t : ℕ) → t < n → f t ≤ g t) → sum f n ≤ sum g n
unfolding sum
sum_le f g zero h = omega arith
sum_le f g (suc n) h = omega (arith, sum_le f g n (λ t b. h t (omega arith)), h n (omega arith))

pub sum_eq : (f g : ℕ → ℕ) (n : ℕ) → ((t : ℕ) → t < n → f t ≡ g t) → sum f n ≡ sum g n
unfolding sum
sum_eq f g zero h = refl
sum_eq f g (suc n) h = omega (arith, sum_eq f g n (λ t b. h t (omega arith)), h n (omega arith))

pub sum_add : (f g : ℕ → ℕ) (n : ℕ) → sum (λ t. f t + g t) n ≡ sum f n + sum g n
unfolding sum
sum_add f g zero = refl
sum_add f g (suc n) = omega (arith, sum_add f g n)

pub sum_times : (c : ℕ) (f : ℕ → ℕ) (n : ℕ) → sum (λ t. c * f t) n ≡ c * sum f n
unfolding sum
sum_times c f zero = omega arith
sum_times c f (suc n) = omega (arith, sum_times c f n)

pub sum-zero : (f : ℕ → ℕ) (n : ℕ) → ((t : ℕ) → t < n → f t ≡ 0) → sum f n ≡ 0
unfolding sum
sum-zero f zero h = refl
sum-zero f (suc n) h = omega (arith, sum-zero f n (λ t b. h t (omega arith)), h n (omega arith))

-- each term is at most the sum
pub sum_term : (f : ℕ → ℕ) (n t : ℕ) → t < n → f t ≤ sum f n
unfolding sum
sum_term f zero t b = no_way (omega arith)
sum_term f (suc n) t b =
    ⊎_elim
    (λ e. omega (arith, ap f e))
    (λ l. omega (arith, sum_term f n t l))
    (eq-or-lt_of_le (le_of_suc-le-suc b))

-- two sums, one inside the other, change places
pub sum_swap :
    (f : ℕ → ℕ → ℕ) (a b : ℕ) →
    sum (λ s. sum (λ t. f s t) b) a ≡ sum (λ t. sum (λ s. f s t) a) b
unfolding sum
sum_swap f zero b = sym (sum-zero (λ t. 0) b (λ t h. refl))
sum_swap f (suc a) b =
    omega (arith, sum_swap f a b, sum_add (λ t. sum (λ s. f s t) a) (λ t. f a t) b)

-- a sum where all terms but one are 0
pub sum-only :
    (f : ℕ → ℕ) (n t : ℕ) → t < n → ((s : ℕ) → s < n → (s ≡ t → ⊥) → f s ≡ 0) → sum f n ≡ f t
unfolding sum
sum-only f zero t b h = no_way (omega arith)
sum-only f (suc n) t b h =
    ⊎_elim
    (λ e. omega (arith, ap f e, sum-zero f n (λ s l. h s (omega arith) (λ q. no_way (omega arith)))))
    (λ l. omega (arith, sum-only f n t l (λ s c d. h s (omega arith) d), h n (omega arith) (λ q. no_way (omega arith))))
    (eq-or-lt_of_le (le_of_suc-le-suc b))

-- a sum up to a + b: its first a terms and its last b
pub sum_more : (f : ℕ → ℕ) (a b : ℕ) → sum f (a + b) ≡ sum f a + sum (λ t. f (a + t)) b
unfolding sum
sum_more f a zero =
    let e : a + 0 ≡ a = omega arith in
    ap (sum f) e ∙ omega arith
sum_more f a (suc b) =
    let e : a + suc b ≡ suc (a + b) = omega arith in
    ap (sum f) e ∙ omega (arith, sum_more f a b)

-- fewer terms
pub sum-within : (f : ℕ → ℕ) (a b : ℕ) → a ≤ b → sum f a ≤ sum f b
sum-within f a b h =
    let e : a + (b - a) ≡ b = omega arith in
    omega (arith, ap (sum f) e, sum_more f a (b - a))
