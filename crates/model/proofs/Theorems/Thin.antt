-- No row of an accepted list has more nonzeros than there are columns, and no column more than there are rows: no two nonzeros share both lines.
-- Assumes nothing.
use mathlib.Core.Bool.{Bool, true}
use mathlib.Core.List.{List}
use mathlib.Core.Logic.{⊎_elim}
use mathlib.Core.Path.{◌≡◌, refl, sym}
use Prim.Native.Nat.{ℕ, ◌+◌, ◌-◌, ◌≤◌, ◌<◌}
use native.Mathlib.Omega.{arith}
use lib.Dec.{eqb, ltb}
use borrow.Author.Tests.{eq-eqb, eqb-true, ltb-true, ltb-false}
use Rattle.counting.specs.Sums.{count}
use Rattle.counting.proofs.Joined.{no_way, by_test, or_cases}
use Rattle.counting.proofs.Charged.{count_inj}
use Rattle.counting.proofs.Counted.{count_mono, count_most}
use Rattle.model.specs.Refusal.{accepted}
use Rattle.model.specs.Limits.{line_limit}
use Rattle.model.specs.Pattern.{row_in, column_in, pattern_of, row_line, column_line, on, line_count}
use Rattle.model.specs.Calls.{list_verdict}
use Rattle.model.proofs.Theorems.Accepted.{list_accepted}
use Rattle.model.proofs.Theorems.Ascending.{after_far}

-- nonzeros that differ in a number are no more than these numbers
few_apart :
    (p : ℕ → Bool) (across : ℕ → ℕ) (nonzeros most : ℕ) →
    ((t : ℕ) → t < nonzeros → across t < most) →
    ((s t : ℕ) → s < t → t < nonzeros → p s ≡ true → p t ≡ true → across s ≡ across t → ⊥) →
    count p nonzeros ≤ most
few_apart p across nonzeros most inside apart =
    omega (
      arith,
      count_inj
          p
          (λ j. true)
          nonzeros
          most
          across
          (record { lands = λ t b e. inside t b; hits = λ t b e. refl; apart = same }),
      count_most (λ j. true) most,
    )
  where
    same : (s t : ℕ) → s < nonzeros → t < nonzeros → p s ≡ true → p t ≡ true → across s ≡ across t → s ≡ t
    same s t b c e f g =
        by_test
        (ltb s t)
        (λ l. absurd (apart s t (ltb-true s t l) c e f g))
        (λ l. by_test
        (ltb t s)
        (λ k. absurd (apart t s (ltb-true t s k) b f e (sym g)))
        (λ k. let up : t ≤ s = ltb-false s t l in let down : s ≤ t = ltb-false t s k in omega arith))

module _ (m n nonzeros : ℕ) (list : List ℕ) (h : list_verdict m n nonzeros list ≡ accepted) where
  -- a row has at most a nonzero in each column
  pub row_thin : (i : ℕ) → count (λ t. eqb i (row_in list t)) nonzeros ≤ n
  row_thin i =
      few_apart
      (λ t. eqb i (row_in list t))
      (column_in list)
      nonzeros
      n
      (list_accepted m n nonzeros list h).column-in
      (λ s t l b e f g. ⊎_elim
      (λ x. no_way (omega (arith, eqb-true i (row_in list s) e, eqb-true i (row_in list t) f)))
      (λ x. no_way (omega (arith, x.1, g)))
      (after_far list nonzeros (list_accepted m n nonzeros list h).rising s t l b))

  -- a column has at most a nonzero in each row
  pub column_thin : (j : ℕ) → count (λ t. eqb j (column_in list t)) nonzeros ≤ m
  column_thin j =
      few_apart
      (λ t. eqb j (column_in list t))
      (row_in list)
      nonzeros
      m
      (list_accepted m n nonzeros list h).row-in
      (λ s t l b e f g. ⊎_elim
      (λ x. no_way (omega (arith, g)))
      (λ x. no_way (omega (arith, x.1, eqb-true j (column_in list s) e, eqb-true j (column_in list t) f)))
      (after_far list nonzeros (list_accepted m n nonzeros list h).rising s t l b))

  -- so no line has more than line_limit
  pub line_thin : (l : ℕ) → line_count (pattern_of m n nonzeros list) l ≤ line_limit
  unfolding line_count on row_line column_line pattern_of
  line_thin l =
      let fine = list_accepted m n nonzeros list h in
      by_test
      (ltb l m)
      (λ e. let b : l < m = ltb-true l m e in
      omega (
        arith,
        fine.columns_to,
        row_thin l,
        count_mono
            (on (pattern_of m n nonzeros list) l)
            (λ t. eqb l (row_in list t))
            nonzeros
            (λ t c f. ⊎_elim
            (λ x. x)
            (λ x. no_way (omega (arith, eqb-true l (m + column_in list t) x)))
            (or_cases (eqb l (row_in list t)) (eqb l (m + column_in list t)) f)),
      ))
      (λ e. let b : m ≤ l = ltb-false l m e in
      omega (
        arith,
        fine.rows_to,
        column_thin (l - m),
        count_mono
            (on (pattern_of m n nonzeros list) l)
            (λ t. eqb (l - m) (column_in list t))
            nonzeros
            (λ t c f. ⊎_elim
            (λ x. no_way (omega (arith, fine.row-in t c, eqb-true l (row_in list t) x)))
            (λ x. eq-eqb (l - m) (column_in list t) (omega (arith, eqb-true l (m + column_in list t) x)))
            (or_cases (eqb l (row_in list t)) (eqb l (m + column_in list t)) f)),
      ))
