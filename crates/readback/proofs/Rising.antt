-- Numbers that rise strictly, and how often a test passes that passes at them alone.
-- Assumes nothing.
use mathlib.Core.Bool.{Bool, true}
use mathlib.Core.Path.{◌≡◌, ◌∙◌, ap}
use mathlib.Core.Logic.{⊎_elim}
use Prim.Native.Nat.{ℕ, zero, suc, ◌≤◌, ◌<◌}
use native.Mathlib.Nat.{eq-or-lt_of_le, le_of_suc-le-suc}
use native.Mathlib.Omega.{arith}
use lib.Dec.{ltb}
use borrow.Author.Tests.{ltb-true, ltb-false}
use Rattle.counting.specs.Sums.{count}
use Rattle.counting.proofs.Joined.{no_way, by_test, fails}
use Rattle.counting.proofs.Counted.{count_none}
use Rattle.counting.proofs.Passed.{count_passed, count-flat}

-- the first `top` numbers rise strictly
pub record Rising (c : ℕ → ℕ) (top : ℕ) : Type 0 where
  pub next : (t : ℕ) → suc t < top → c t < c (suc t)

pub rising : {c : ℕ → ℕ} {top : ℕ} → Rising c top → (s t : ℕ) → s < t → t < top → c s < c t
rising r s zero l b = no_way (omega arith)
rising {c} r s (suc t) l b =
    ⊎_elim
    (λ e. omega (arith, r.next t b, ap c e))
    (λ k. omega (arith, r.next t b, rising r s t k (omega arith)))
    (eq-or-lt_of_le (le_of_suc-le-suc l))

pub rising_from : {c : ℕ → ℕ} {top : ℕ} → Rising c top → (s t : ℕ) → s ≤ t → t < top → c s ≤ c t
rising_from {c} r s t l b =
    ⊎_elim (λ e. omega (arith, ap c e)) (λ k. omega (arith, rising r s t k b)) (eq-or-lt_of_le l)

-- a test that passes at these numbers alone
module _
    (test : ℕ → Bool) {c : ℕ → ℕ} {top : ℕ} (r : Rising c top)
    (passing : (p : ℕ) → test p ≡ true → (t : ℕ) × (t < top) × (p ≡ c t)) (passes : (t : ℕ) → t < top → test (c t) ≡ true) where
  counted :
      (t p : ℕ) → ((s : ℕ) → s < t → c s < p) → ((s : ℕ) → t ≤ s → s < top → p ≤ c s) → t ≤ top → count test p ≡ t
  counted zero p low high b =
      count_none
      test
      p
      (λ q l. fails (test q) (λ e. let w = passing q e in omega (arith, high w.0 (omega arith) w.1, w.2)))
  counted (suc t) p low high b =
      let last : count test (c t) ≡ t =
      counted t (c t) (λ s l. rising r s t l b) (λ s l k. rising_from r t s l k) (omega arith) in
      count-flat
      test
      (suc (c t))
      p
      (low t (omega arith))
      (λ q l k. fails
      (test q)
      (λ e. let w = passing q e in
      by_test
      (ltb t w.0)
      (λ z. omega (arith, high w.0 (ltb-true t w.0 z) w.1, w.2))
      (λ z. omega (arith, rising_from r w.0 t (ltb-false t w.0 z) b, w.2))))
      ∙ omega (arith, count_passed test (c t) (passes t b))

  -- below number t it passes t times, and past all of them as often as there are
  pub count-before : (t : ℕ) → t < top → count test (c t) ≡ t
  count-before t b = counted t (c t) (λ s l. rising r s t l b) (λ s l h. rising_from r t s l h) (omega arith)

  pub count-whole : (p : ℕ) → ((t : ℕ) → t < top → c t < p) → count test p ≡ top
  count-whole p low = counted top p low (λ s l h. no_way (omega arith)) (omega arith)
