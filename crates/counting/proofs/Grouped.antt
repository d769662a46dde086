-- Numbers grouped by a value: a sum over the values of what each group weighs is a sum over the numbers.
-- Assumes nothing.
use mathlib.Core.Bool.{Bool}
use mathlib.Core.Path.{◌≡◌, refl, sym, ◌∙◌, ap}
use Prim.Native.Nat.{ℕ, ◌*◌, ◌<◌}
use native.Mathlib.Omega.{arith}
use lib.Dec.{eqb}
use borrow.Author.Tests.{eq-eqb, ne_eqb}
use Rattle.counting.specs.Tests.{◌and◌, bit}
use Rattle.counting.specs.Sums.{sum, count}
use Rattle.counting.proofs.Joined.{both_ways, and_intro, and_left, and_fails_right, bit-false}
use Rattle.counting.proofs.Summed.{sum_eq, sum_swap, sum_times, sum-only}

module _ (w : ℕ → ℕ) (c : ℕ → Bool) (u : ℕ → ℕ) (n top : ℕ) where
  -- one number weighs in its own group only
  own_group :
      (l : ℕ) → u l < top → sum (λ x. w x * bit (c l and eqb (u l) x)) top ≡ w (u l) * bit (c l)
  own_group l b =
      sum-only (λ x. w x * bit (c l and eqb (u l) x)) top (u l) b apart
      ∙ ap (λ (z : Bool). w (u l) * bit z) own
    where
      apart : (x : ℕ) → x < top → (x ≡ u l → ⊥) → w x * bit (c l and eqb (u l) x) ≡ 0
      apart x d ne =
          ap
          (λ (z : ℕ). w x * z)
          (bit-false (c l and eqb (u l) x) (and_fails_right (c l) (ne_eqb (u l) x (λ e. ne (sym e)))))
          ∙ omega arith

      own : c l and eqb (u l) (u l) ≡ c l
      own =
          both_ways
          (c l and eqb (u l) (u l))
          (c l)
          (λ e. and_left (c l) (eqb (u l) (u l)) e)
          (λ e. and_intro e (eq-eqb (u l) (u l) refl))

  -- the group of x is the numbers that pass and have value x, and each weighs w x
  pub sum-by_value :
      ((l : ℕ) → l < n → u l < top) →
      sum (λ x. w x * count (λ l. c l and eqb (u l) x) n) top ≡ sum (λ l. w (u l) * bit (c l)) n
  sum-by_value b =
      sum_eq
      (λ x. w x * count (λ l. c l and eqb (u l) x) n)
      (λ x. sum (λ l. w x * bit (c l and eqb (u l) x)) n)
      top
      (λ x d. sym (sum_times (w x) (λ l. bit (c l and eqb (u l) x)) n))
      ∙ sum_swap (λ x l. w x * bit (c l and eqb (u l) x)) top n
      ∙ sum_eq
      (λ l. sum (λ x. w x * bit (c l and eqb (u l) x)) top)
      (λ l. w (u l) * bit (c l))
      n
      (λ l d. own_group l (b l d))

-- the groups together have as many numbers as pass
pub count-by_value :
    (c : ℕ → Bool) (u : ℕ → ℕ) (n top : ℕ) →
    ((l : ℕ) → l < n → u l < top) →
    sum (λ x. count (λ l. c l and eqb (u l) x) n) top ≡ count c n
count-by_value c u n top b =
    omega (
      arith,
      sum_times 1 (λ x. count (λ l. c l and eqb (u l) x) n) top,
      sum-by_value (λ x. 1) c u n top b,
      sum_times 1 (λ l. bit (c l)) n,
    )
