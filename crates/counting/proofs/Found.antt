-- A number that passes a test, as a value: the greatest below a bound, or 0 where none passes.
-- Assumes nothing.
use mathlib.Core.Bool.{Bool, true}
use mathlib.Core.Path.{◌≡◌, ◌∙◌, ap}
use Prim.Native.Nat.{ℕ, zero, suc, ◌≤◌, ◌<◌}
use native.Mathlib.Omega.{arith}
use borrow.Author.Tests.{ltb-true}
use Rattle.counting.specs.Tests.{pick}
use Rattle.counting.specs.Sums.{sum, count, any}
use Rattle.counting.proofs.Joined.{no_way, by_test, pick_true, pick-false, bit-false}

-- the greatest number below n that passes, or 0
unfoldable pub found : (ℕ → Bool) → ℕ → ℕ
found p zero = 0
found p (suc n) = pick (p n) n (found p n)

-- where the count is not 0, it is below n and passes
found_some : (p : ℕ → Bool) (n : ℕ) → 1 ≤ count p n → (found p n < n) × (p (found p n) ≡ true)
unfolding found sum
found_some p zero h = no_way h
found_some p (suc n) h =
    by_test
    (p n)
    (λ last. let e = pick_true n (found p n) last in
    (omega arith, ap p e ∙ last))
    (λ other. let e = pick-false n (found p n) other in
    let w = found_some p n (omega (arith, bit-false (p n) other)) in
    (omega (arith, w.0), ap p e ∙ w.1))

-- where some number passes, it is below n
pub found_below : (p : ℕ → Bool) (n : ℕ) → any p n ≡ true → found p n < n
unfolding any
found_below p n h = (found_some p n (ltb-true 0 (count p n) h)).0

-- and it passes
pub found_passes : (p : ℕ → Bool) (n : ℕ) → any p n ≡ true → p (found p n) ≡ true
unfolding any
found_passes p n h = (found_some p n (ltb-true 0 (count p n) h)).1
