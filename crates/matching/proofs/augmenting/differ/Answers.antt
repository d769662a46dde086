-- `matching::augmenting::differ` meets its contract.
-- Assumes nothing.
use mathlib.Core.Logic.{⊎_elim}
use mathlib.Core.Path.{◌≡◌}
use Prim.Native.Nat.{ℕ, ◌+◌}
use native.Mathlib.Omega.{arith}
use lib.Dec.{eqb}
use borrow.Author.Tests.{eq-eqb, eqb-true, eqb-false}
use Rattle.counting.specs.Tests.{◌and◌, ◌or◌}
use Rattle.counting.proofs.Joined.{by_test, both_ways, and_intro, and_left, and_right, or_left, or_right, or_cases}
use Rattle.matching.specs.Augmenting.{different}
use Rattle.matching.proofs.augmenting.differ.Goals as goal

-- 0 and 1 alone add up to 1
sum_one : (a b : ℕ) → eqb (a + b) 1 ≡ different a b
unfolding different
sum_one a b =
    both_ways
    (eqb (a + b) 1)
    ((eqb a 0 and eqb b 1) or (eqb a 1 and eqb b 0))
    (λ e. let sum = eqb-true (a + b) 1 e in
    by_test
    (eqb a 0)
    (λ z. or_left _ (and_intro z (eq-eqb b 1 (omega (arith, sum, eqb-true a 0 z)))))
    (λ z. let one : a ≡ 1 = omega (arith, sum, eqb-false a 0 z) in
    or_right _ (and_intro (eq-eqb a 1 one) (eq-eqb b 0 (omega (arith, sum, one))))))
    (λ e. eq-eqb (a + b) 1 (⊎_elim
    (λ h. omega (arith, eqb-true a 0 (and_left _ _ h), eqb-true b 1 (and_right (eqb a 0) _ h)))
    (λ h. omega (arith, eqb-true a 1 (and_left _ _ h), eqb-true b 0 (and_right (eqb a 1) _ h)))
    (or_cases (eqb a 0 and eqb b 1) (eqb a 1 and eqb b 0) e)))

pub returns : goal.returns
returns c =
    let a = c.args in
    let sum = sum_one a.a a.b in
    cc
