-- The numbers that pass a test, by how many pass before them.
-- Assumes nothing.
use mathlib.Core.Bool.{Bool, true, false}
use mathlib.Core.Path.{◌≡◌, sym, ◌∙◌, ap}
use mathlib.Core.Logic.{⊎_elim}
use Prim.Native.Nat.{ℕ, zero, suc, ◌+◌, ◌≤◌, ◌<◌}
use native.Mathlib.Nat.{eq-or-lt_of_le, le_of_suc-le-suc}
use native.Mathlib.Omega.{arith}
use lib.Dec.{eqb}
use borrow.Author.Tests.{eqb-true, eqb-false}
use Rattle.counting.specs.Tests.{bit}
use Rattle.counting.specs.Sums.{count}
use Rattle.counting.proofs.Joined.{no_way, by_test, bit-true, bit-false}
use Rattle.counting.proofs.Summed.{sum-suc, sum-none}
use Rattle.counting.proofs.Counted.{count_eq}

module _ (test : ℕ → Bool) where
  -- one number more
  pub count_passed : (p : ℕ) → test p ≡ true → count test (suc p) ≡ count test p + 1
  count_passed p e = omega (arith, sum-suc (λ t. bit (test t)) p, bit-true (test p) e)

  pub count_failed : (p : ℕ) → test p ≡ false → count test (suc p) ≡ count test p
  count_failed p e = omega (arith, sum-suc (λ t. bit (test t)) p, bit-false (test p) e)

  -- more numbers have no fewer that pass
  pub count_rise : (p q : ℕ) → p ≤ q → count test p ≤ count test q
  count_rise p zero l =
      let e : p ≡ 0 = omega arith in
      omega (arith, ap (λ k. count test k) e)
  count_rise p (suc q) l =
      ⊎_elim
      (λ e. omega (arith, ap (λ k. count test k) e))
      (λ k. omega (arith, sum-suc (λ t. bit (test t)) q, count_rise p q (le_of_suc-le-suc k)))
      (eq-or-lt_of_le l)

  -- where none passes the count stays
  pub count-flat : (p q : ℕ) → p ≤ q → ((s : ℕ) → p ≤ s → s < q → test s ≡ false) → count test q ≡ count test p
  count-flat p zero l none =
      let e : 0 ≡ p = omega arith in
      ap (λ k. count test k) e
  count-flat p (suc q) l none =
      ⊎_elim
      (λ e. ap (λ k. count test k) (sym e))
      (λ k. count_failed q (none q (le_of_suc-le-suc k) (omega arith))
      ∙ count-flat p q (le_of_suc-le-suc k) (λ s a b. none s a (omega arith)))
      (eq-or-lt_of_le l)

  -- past one that passes there are more
  pub count-later : (p q : ℕ) → test p ≡ true → p < q → count test p < count test q
  count-later p q e l = omega (arith, count_passed p e, count_rise (suc p) q l)

  -- one passes with so many before it
  pub passed : (n t : ℕ) → t < count test n → (p : ℕ) × (p < n) × (test p ≡ true) × (count test p ≡ t)
  passed zero t l = no_way (omega (arith, sum-none (λ s. bit (test s))))
  passed (suc n) t l =
      by_test
      (test n)
      (λ e. let c = count_passed n e in
      by_test
      (eqb (count test n) t)
      (λ z. (n, omega arith, e, eqb-true (count test n) t z))
      (λ z. let ne = eqb-false (count test n) t z in
      let w = passed n t (omega arith) in
      (w.0, omega (arith, w.1), w.2, w.3)))
      (λ e. let w = passed n t (omega (arith, count_failed n e)) in
      (w.0, omega (arith, w.1), w.2, w.3))

-- of two tests that differ at one number, the one that passes there passes once more
pub count_added :
    (test more : ℕ → Bool) (n t : ℕ) → ((s : ℕ) → (s ≡ t → ⊥) → more s ≡ test s) → t < n → test t ≡ false → more t ≡ true →
    count more n ≡ count test n + 1
count_added test more zero t same l f p = no_way (omega arith)
count_added test more (suc n) t same l f p =
    ⊎_elim
    (λ e. let below = count_eq more test n (λ s b. same s (λ q. omega arith)) in
    omega (arith, count_passed more n (ap more (sym e) ∙ p), count_failed test n (ap test (sym e) ∙ f)))
    (λ k. let below = count_added test more n t same k f p in
    let last : bit (more n) ≡ bit (test n) = ap bit (same n (λ q. omega arith)) in
    omega (arith, sum-suc (λ s. bit (more s)) n, sum-suc (λ s. bit (test s)) n))
    (eq-or-lt_of_le (le_of_suc-le-suc l))
