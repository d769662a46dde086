-- The conflict columns of a row are ascending for every list that is accepted, since its nonzeros rise by row and then column.
-- Assumes nothing.
use mathlib.Core.Bool.{Bool, true}
use mathlib.Core.List.{List, [], ◌∷◌}
use mathlib.Core.Logic.{◌⊎◌, inl, inr, ⊎_elim}
use mathlib.Core.Path.{◌≡◌, refl, ◌∙◌, ap}
use Prim.Native.Nat.{ℕ, zero, suc, ◌+◌, ◌<◌}
use native.Mathlib.Nat.{eq-or-lt_of_le, le_of_suc-le-suc}
use native.Mathlib.Omega.{arith}
use lib.Dec.{eqb, ltb}
use borrow.Author.Tests.{eqb-true, ltb-true, lt-ltb}
use Rattle.counting.specs.Tests.{◌and◌}
use Rattle.counting.proofs.Joined.{no_way, by_test, and_intro, and_left, and_right, or_cases}
use Rattle.model.specs.Refusal.{accepted}
use Rattle.model.specs.Pattern.{row_in, column_in, pattern_of}
use Rattle.model.specs.Marking.{Marking}
use Rattle.model.specs.Bound.{conflict}
use Rattle.model.specs.Matching.{columns_where, conflict_of, conflict_columns, ascending}
use Rattle.model.specs.Calls.{rises, list_verdict}
use Rattle.model.proofs.Matching.Columns.{each, each_first, where_each, where_take, where_pass}
use Rattle.model.proofs.Theorems.Accepted.{list_accepted}

-- nonzero t comes after nonzero s, by row and then column
abbrev pub After : List ℕ → ℕ → ℕ → Type 0
After list s t =
    (row_in list s < row_in list t) ⊎ ((row_in list s ≡ row_in list t) × (column_in list s < column_in list t))

after_next : (list : List ℕ) (t : ℕ) → rises list (suc t) ≡ true → After list t (suc t)
unfolding rises
after_next list t e =
    ⊎_elim
    (λ h. inl (ltb-true (row_in list t) (row_in list (suc t)) h))
    (λ h. inr (
      eqb-true (row_in list t) (row_in list (suc t)) (and_left _ _ h),
      ltb-true (column_in list t) (column_in list (suc t)) (and_right (eqb (row_in list t) (row_in list (suc t))) _ h),
    ))
    (or_cases
    (ltb (row_in list t) (row_in list (suc t)))
    (eqb (row_in list t) (row_in list (suc t)) and ltb (column_in list t) (column_in list (suc t)))
    e)

after_then : (list : List ℕ) (r s t : ℕ) → After list r s → After list s t → After list r t
after_then list r s t a b =
    ⊎_elim
    (λ x. ⊎_elim (λ y. inl (omega arith)) (λ y. inl (omega (arith, y.0))) b)
    (λ x. ⊎_elim
    (λ y. inl (omega (arith, x.0)))
    (λ y. inr (x.0 ∙ y.0, omega (arith, x.1, y.1)))
    b)
    a

-- over any number of steps
pub after_far :
    (list : List ℕ) (nonzeros : ℕ) → ((t : ℕ) → t < nonzeros → rises list t ≡ true) →
    (s t : ℕ) → s < t → t < nonzeros → After list s t
after_far list nonzeros rising s zero h b = no_way (omega arith)
after_far list nonzeros rising s (suc t) h b =
    let last = after_next list t (rising (suc t) b) in
    ⊎_elim
    (λ q. ⊎_elim
    (λ x. inl (omega (arith, ap (row_in list) q)))
    (λ x. inr (ap (row_in list) q ∙ x.0, omega (arith, x.1, ap (column_in list) q)))
    last)
    (λ l. after_then list s t (suc t) (after_far list nonzeros rising s t l (omega arith)) last)
    (eq-or-lt_of_le (le_of_suc-le-suc h))

-- columns after a first one that is below each of them
ascending-more :
    (j : ℕ) (js : List ℕ) → each (λ c. ltb j c) js ≡ true → ascending js ≡ true → ascending (j ∷ js) ≡ true
unfolding ascending
ascending-more j [] e f = refl
ascending-more j (c ∷ js) e f = and_intro (each_first (λ d. ltb j d) c js e) f

-- columns that rise where the test passes
where_ascending :
    (test : ℕ → Bool) (column : ℕ → ℕ) (n t : ℕ) →
    ((r s : ℕ) → r < s → s < t + n → test r ≡ true → test s ≡ true → column r < column s) →
    ascending (columns_where test column n t) ≡ true
unfolding columns_where ascending
where_ascending test column zero t h = refl
where_ascending test column (suc n) t h =
    let rest = where_ascending test column n (suc t) (λ r s a b. h r s a (omega arith)) in
    by_test
    (test t)
    (λ e. ap ascending (where_take test column n t e)
    ∙ ascending-more
    (column t)
    (columns_where test column n (suc t))
    (where_each
    test
    column
    (λ c. ltb (column t) c)
    n
    (suc t)
    (λ s a b f. lt-ltb (column t) (column s) (h t s a (omega arith) e f)))
    rest)
    (λ e. ap ascending (where_pass test column n t e) ∙ rest)

-- the conflict columns of each row of an accepted list
pub conflict-ascending :
    (m n nonzeros : ℕ) (list : List ℕ) → list_verdict m n nonzeros list ≡ accepted →
    (μ : Marking) (i : ℕ) → ascending (conflict_columns (pattern_of m n nonzeros list) μ i) ≡ true
unfolding conflict_columns conflict_of pattern_of
conflict-ascending m n nonzeros list h μ i =
    let P = pattern_of m n nonzeros list in
    let row : (t : ℕ) → conflict_of P μ i t ≡ true → row_in list t ≡ i = λ t e. eqb-true (row_in list t) i (and_right (conflict P μ t) _ e) in
    where_ascending
    (conflict_of P μ i)
    (column_in list)
    nonzeros
    0
    (λ r s a b e f. ⊎_elim
    (λ x. no_way (omega (arith, row r e, row s f)))
    (λ x. x.1)
    (after_far list nonzeros (list_accepted m n nonzeros list h).rising r s a (omega arith)))
