-- Mates that agree on every column: both are a matching or neither is. And the order in which two columns get their mates.
-- Assumes nothing.
use mathlib.Core.Path.{◌≡◌, sym, ◌∙◌, ap}
use Prim.Native.Nat.{ℕ, ◌<◌}
use lib.Dec.{eqb}
use borrow.Author.Tests.{eqb-true, eqb-false}
use Rattle.counting.specs.Tests.{pick}
use Rattle.counting.proofs.Joined.{by_test}
use Rattle.model.specs.Pattern.{Pattern}
use Rattle.model.specs.Marking.{Marking}
use Rattle.model.specs.Matching.{with_mate}
use Rattle.model.proofs.Matching.Mates.{Matching}
use Rattle.model.proofs.Matching.Swap.{with_same, with_other}

-- mates that agree on every column are a matching together
pub matching_same :
    (P : Pattern) (μ : Marking) (mate mate' : ℕ → ℕ) →
    ((j : ℕ) → j < P.n → mate j ≡ mate' j) → Matching P μ mate → Matching P μ mate'
matching_same P μ mate mate' same M =
    record {
      meets = λ i j b e. M.meets i j b (same j b ∙ e);
      apart = λ i j k b c e f. M.apart i j k b c (same j b ∙ e) (same k c ∙ f);
    }

-- where two mates of column c agree, they do once column j gets a mate
pub with_cong :
    (mate mate' : ℕ → ℕ) (j x c : ℕ) → mate c ≡ mate' c → with_mate mate j x c ≡ with_mate mate' j x c
unfolding with_mate
with_cong mate mate' j x c e = ap (pick (eqb c j) x) e

-- two columns get their mates in either order
pub with_swap :
    (mate : ℕ → ℕ) (j k x y c : ℕ) →
    (j ≡ k → ⊥) → with_mate (with_mate mate j x) k y c ≡ with_mate (with_mate mate k y) j x c
with_swap mate j k x y c apart =
    by_test
    (eqb c k)
    (λ s. let q = eqb-true c k s in
    let d : (c ≡ j) → ⊥ = λ e. apart (sym e ∙ q) in
    ap (with_mate (with_mate mate j x) k y) q
    ∙ with_same (with_mate mate j x) k y
    ∙ sym (with_same mate k y)
    ∙ ap (with_mate mate k y) (sym q)
    ∙ sym (with_other (with_mate mate k y) j x c d))
    (λ s. let d = eqb-false c k s in
    with_other (with_mate mate j x) k y c d ∙ with_cong mate (with_mate mate k y) j x c (sym (with_other mate k y c d)))
