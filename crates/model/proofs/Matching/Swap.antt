-- A column of a matching gets another row: when that is a matching again, and its size.
-- Assumes nothing.
use mathlib.Core.Bool.{true}
use mathlib.Core.Path.{◌≡◌, refl, sym, ◌∙◌, ap}
use mathlib.Core.Logic.{◌⊎◌, inl, inr, ⊎_elim}
use Prim.Native.Nat.{ℕ, suc, ◌+◌, ◌<◌}
use native.Mathlib.Omega.{arith}
use lib.Dec.{eqb, ltb}
use borrow.Author.Tests.{eqb-true, eqb-false, eq-eqb, ne_eqb}
use Rattle.counting.specs.Tests.{bit}
use Rattle.counting.specs.Sums.{count}
use Rattle.counting.proofs.Joined.{no_way, by_test, pick_true, pick-false, bit-true, bit-false}
use Rattle.counting.proofs.Summed.{sum_eq, sum_add, sum-only}
use Rattle.counting.proofs.Counted.{count_eq}
use Rattle.model.specs.Pattern.{Pattern}
use Rattle.model.specs.Marking.{Marking}
use Rattle.model.specs.Matching.{with_mate}
use Rattle.model.proofs.Matching.Mates.{Matching, joined, matched, mate_matched}

-- column j has x
pub with_same : (mate : ℕ → ℕ) (j x : ℕ) → with_mate mate j x j ≡ x
unfolding with_mate
with_same mate j x = pick_true x (mate j) (eq-eqb j j refl)

-- another column has the mate it had
pub with_other : (mate : ℕ → ℕ) (j x c : ℕ) → (c ≡ j → ⊥) → with_mate mate j x c ≡ mate c
unfolding with_mate
with_other mate j x c d = pick-false x (mate c) (ne_eqb c j d)

-- where a mate comes from
pub with_cases :
    (mate : ℕ → ℕ) (j x c y : ℕ) →
    with_mate mate j x c ≡ y → ((c ≡ j) × (x ≡ y)) ⊎ ((c ≡ j → ⊥) × (mate c ≡ y))
with_cases mate j x c y e =
    by_test
    (eqb c j)
    (λ s. let q = eqb-true c j s in
    inl (q, sym (with_same mate j x) ∙ ap (with_mate mate j x) (sym q) ∙ e))
    (λ s. let d = eqb-false c j s in
    inr (d, sym (with_other mate j x c d) ∙ e))

-- a matching without a column
pub leave_out :
    (P : Pattern) (μ : Marking) (mate : ℕ → ℕ) (j : ℕ) → Matching P μ mate → Matching P μ (with_mate mate j 0)
leave_out P μ mate j M = record { meets = meets'; apart = apart' }
  where
    kept : (i c : ℕ) → with_mate mate j 0 c ≡ suc i → mate c ≡ suc i
    kept i c e = ⊎_elim (λ w. no_way (omega (arith, w.1))) (λ w. w.1) (with_cases mate j 0 c (suc i) e)

    meets' : (i c : ℕ) → c < P.n → with_mate mate j 0 c ≡ suc i → joined P μ i c ≡ true
    meets' i c b e = M.meets i c b (kept i c e)

    apart' :
        (i c c' : ℕ) → c < P.n → c' < P.n →
        with_mate mate j 0 c ≡ suc i → with_mate mate j 0 c' ≡ suc i → c ≡ c'
    apart' i c c' b b' e e' = M.apart i c c' b b' (kept i c e) (kept i c' e')

-- a column that is left out gets a row that no other column has
pub put_in :
    (P : Pattern) (μ : Marking) (mate : ℕ → ℕ) (i j : ℕ) →
    Matching P μ (with_mate mate j 0) → joined P μ i j ≡ true →
    ((c : ℕ) → c < P.n → (c ≡ j → ⊥) → mate c ≡ suc i → ⊥) → Matching P μ (with_mate mate j (suc i))
put_in P μ mate i j M join alone = record { meets = meets'; apart = apart' }
  where
    meets' : (r c : ℕ) → c < P.n → with_mate mate j (suc i) c ≡ suc r → joined P μ r c ≡ true
    meets' r c b e =
        ⊎_elim
        (λ w. let q : r ≡ i = omega (arith, w.1) in
        ap (λ k. joined P μ k c) q ∙ ap (joined P μ i) w.0 ∙ join)
        (λ w. M.meets r c b (with_other mate j 0 c w.0 ∙ w.1))
        (with_cases mate j (suc i) c (suc r) e)

    new : (r c : ℕ) → c < P.n → (c ≡ j → ⊥) → suc i ≡ suc r → mate c ≡ suc r → ⊥
    new r c b d q e = alone c b d (e ∙ sym q)

    apart' :
        (r c c' : ℕ) → c < P.n → c' < P.n →
        with_mate mate j (suc i) c ≡ suc r → with_mate mate j (suc i) c' ≡ suc r → c ≡ c'
    apart' r c c' b b' e e' =
        ⊎_elim
        (λ w. ⊎_elim
        (λ w'. w.0 ∙ sym w'.0)
        (λ w'. absurd (new r c' b' w'.0 w.1 w'.1))
        (with_cases mate j (suc i) c' (suc r) e'))
        (λ w. ⊎_elim
        (λ w'. absurd (new r c b w.0 w'.1 w.1))
        (λ w'. M.apart r c c' b b' (with_other mate j 0 c w.0 ∙ w.1) (with_other mate j 0 c' w'.0 ∙ w'.1))
        (with_cases mate j (suc i) c' (suc r) e'))
        (with_cases mate j (suc i) c (suc r) e)

-- a column of a matching gets a row that no other column has
pub swap_last :
    (P : Pattern) (μ : Marking) (mate : ℕ → ℕ) (i j : ℕ) →
    Matching P μ mate → joined P μ i j ≡ true →
    ((c : ℕ) → c < P.n → (c ≡ j → ⊥) → mate c ≡ suc i → ⊥) → Matching P μ (with_mate mate j (suc i))
swap_last P μ mate i j M join alone = put_in P μ mate i j (leave_out P μ mate j M) join alone

-- the other columns stay matched or free
with_matched-other :
    (mate : ℕ → ℕ) (j x c : ℕ) → (c ≡ j → ⊥) → ltb 0 (with_mate mate j x c) ≡ ltb 0 (mate c)
with_matched-other mate j x c d = ap (ltb 0) (with_other mate j x c d)

-- a free column that gets a row counts one more, and no other does
with_bit :
    (mate : ℕ → ℕ) (i j c : ℕ) →
    mate j ≡ 0 → bit (ltb 0 (with_mate mate j (suc i) c)) ≡ bit (ltb 0 (mate c)) + bit (eqb c j)
with_bit mate i j c e =
    by_test
    (eqb c j)
    (λ s. let q = eqb-true c j s in
    omega (
      arith,
      bit-true (eqb c j) s,
      bit-true
          (ltb 0 (with_mate mate j (suc i) c))
          (mate_matched (with_mate mate j (suc i) c) i (ap (with_mate mate j (suc i)) q ∙ with_same mate j (suc i))),
      bit-false (ltb 0 (mate c)) (ap (λ k. ltb 0 (mate k)) q ∙ ap (ltb 0) e),
    ))
    (λ s. omega (
      arith,
      bit-false (eqb c j) s,
      ap bit (with_matched-other mate j (suc i) c (eqb-false c j s)),
    ))

-- one column is column j
count_equal : (n j : ℕ) → j < n → count (λ c. eqb c j) n ≡ 1
count_equal n j b =
    sum-only (λ c. bit (eqb c j)) n j b (λ c l d. bit-false (eqb c j) (ne_eqb c j d))
    ∙ bit-true (eqb j j) (eq-eqb j j refl)

-- a free column that gets a row makes the matching one larger
pub swap_more :
    (P : Pattern) (mate : ℕ → ℕ) (i j : ℕ) →
    j < P.n → mate j ≡ 0 → matched P (with_mate mate j (suc i)) ≡ matched P mate + 1
unfolding matched
swap_more P mate i j b e =
    omega (
      arith,
      sum_eq
          (λ c. bit (ltb 0 (with_mate mate j (suc i) c)))
          (λ c. bit (ltb 0 (mate c)) + bit (eqb c j))
          P.n
          (λ c l. with_bit mate i j c e),
      sum_add (λ c. bit (ltb 0 (mate c))) (λ c. bit (eqb c j)) P.n,
      count_equal P.n j b,
    )

-- a matched column that gets another row leaves its size
pub swap_same :
    (P : Pattern) (mate : ℕ → ℕ) (i j r : ℕ) →
    mate j ≡ suc r → matched P (with_mate mate j (suc i)) ≡ matched P mate
unfolding matched
swap_same P mate i j r e =
    count_eq
    (λ c. ltb 0 (with_mate mate j (suc i) c))
    (λ c. ltb 0 (mate c))
    P.n
    (λ c b. by_test
    (eqb c j)
    (λ s. let q = eqb-true c j s in
    mate_matched (with_mate mate j (suc i) c) i (ap (with_mate mate j (suc i)) q ∙ with_same mate j (suc i))
    ∙ sym (mate_matched (mate c) r (ap mate q ∙ e)))
    (λ s. with_matched-other mate j (suc i) c (eqb-false c j s)))
