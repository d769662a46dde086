-- The conflict columns of a row: those that are joined to it, as many as the row's conflicts.
-- Assumes nothing.
use mathlib.Core.Bool.{Bool, true, false}
use mathlib.Core.List.{List, [], ◌∷◌}
use mathlib.Core.Path.{◌≡◌, refl, sym, ◌∙◌, ap}
use mathlib.Core.Logic.{⊎_elim}
use Prim.Native.Nat.{ℕ, zero, suc, ◌+◌, ◌≤◌, ◌<◌}
use native.Mathlib.Nat.{eq-or-lt_of_le}
use native.Mathlib.Omega.{arith}
use lib.Dec.{ltb}
use lib.ListN.{length}
use borrow.Author.Tests.{eqb-true, eq-eqb, lt-ltb}
use Rattle.counting.specs.Tests.{◌and◌, bit}
use Rattle.counting.specs.Sums.{sum, count}
use Rattle.counting.proofs.Joined.{no_way, by_test, clash, and_intro, and_left, and_right, pick_true, pick-false, bit-true, bit-false}
use Rattle.counting.proofs.Summed.{sum_eq, sum_more}
use Rattle.counting.proofs.Grouped.{count-by_value}
use Rattle.model.specs.Pattern.{Pattern, Inside}
use Rattle.model.specs.Marking.{Marking}
use Rattle.model.specs.Bound.{conflict}
use Rattle.model.specs.Matching.{columns_where, conflict_of, conflict_columns, conflicts}
use Rattle.model.proofs.Matching.Mates.{joined, joined_by, joined-meeting, joined-column_in, meeting-conflict, meeting-row, meeting_column}

-- every column of a list passes a test
unfoldable pub each : (ℕ → Bool) → List ℕ → Bool
each p [] = true
each p (j ∷ js) = p j and each p js

pub each_first : (p : ℕ → Bool) (j : ℕ) (js : List ℕ) → each p (j ∷ js) ≡ true → p j ≡ true
unfolding each
each_first p j js e = and_left (p j) (each p js) e

pub each-rest : (p : ℕ → Bool) (j : ℕ) (js : List ℕ) → each p (j ∷ js) ≡ true → each p js ≡ true
unfolding each
each-rest p j js e = and_right (p j) (each p js) e

pub each_none : (p : ℕ → Bool) → each p [] ≡ true
unfolding each
each_none p = refl

pub each_more : (p : ℕ → Bool) (j : ℕ) (js : List ℕ) → p j ≡ true → each p js ≡ true → each p (j ∷ js) ≡ true
unfolding each
each_more p j js e f = and_intro e f

-- one test implies the other
pub each_mono :
    (p q : ℕ → Bool) (js : List ℕ) → ((j : ℕ) → p j ≡ true → q j ≡ true) → each p js ≡ true → each q js ≡ true
each_mono p q [] h e = each_none q
each_mono p q (j ∷ js) h e =
    each_more q j js (h j (each_first p j js e)) (each_mono p q js h (each-rest p j js e))

-- the columns where a test passes, one nonzero after the other
module _ (test : ℕ → Bool) (column : ℕ → ℕ) where
  pub where_take :
      (n t : ℕ) → test t ≡ true →
      columns_where test column (suc n) t ≡ column t ∷ columns_where test column n (suc t)
  unfolding columns_where
  where_take n t e = pick_true _ _ e

  pub where_pass :
      (n t : ℕ) → test t ≡ false → columns_where test column (suc n) t ≡ columns_where test column n (suc t)
  unfolding columns_where
  where_pass n t e = pick-false _ _ e

  -- none where no nonzero passes
  pub where_none :
      (n t : ℕ) → ((s : ℕ) → t ≤ s → s < t + n → test s ≡ false) → columns_where test column n t ≡ []
  unfolding columns_where
  where_none zero t h = refl
  where_none (suc n) t h =
      where_pass n t (h t (omega arith) (omega arith))
      ∙ where_none n (suc t) (λ s a b. h s (omega arith) (omega arith))

  -- the first a nonzeros do not pass
  pub where_later :
      (a n t : ℕ) → ((s : ℕ) → t ≤ s → s < t + a → test s ≡ false) →
      columns_where test column (a + n) t ≡ columns_where test column n (t + a)
  where_later zero n t h =
      let none : 0 + n ≡ n = omega arith in
      let same : t ≡ t + 0 = omega arith in
      ap (λ (x : ℕ). columns_where test column x t) none ∙ ap (columns_where test column n) same
  where_later (suc a) n t h =
      let more : suc a + n ≡ suc (a + n) = omega arith in
      let next : suc t + a ≡ t + suc a = omega arith in
      ap (λ (x : ℕ). columns_where test column x t) more
      ∙ where_pass (a + n) t (h t (omega arith) (omega arith))
      ∙ where_later a n (suc t) (λ s b c. h s (omega arith) (omega arith))
      ∙ ap (columns_where test column n) next

  -- those after the first n do not pass
  pub where_sooner :
      (n b t : ℕ) → ((s : ℕ) → t + n ≤ s → s < t + n + b → test s ≡ false) →
      columns_where test column (n + b) t ≡ columns_where test column n t
  unfolding columns_where
  where_sooner zero b t h =
      let none : 0 + b ≡ b = omega arith in
      ap (λ (x : ℕ). columns_where test column x t) none ∙ where_none b t (λ s c d. h s (omega arith) (omega arith))
  where_sooner (suc n) b t h =
      let more : suc n + b ≡ suc (n + b) = omega arith in
      let rest = where_sooner n b (suc t) (λ s c d. h s (omega arith) (omega arith)) in
      ap (λ (x : ℕ). columns_where test column x t) more
      ∙ by_test
      (test t)
      (λ e. where_take (n + b) t e ∙ ap (λ (js : List ℕ). column t ∷ js) rest ∙ sym (where_take n t e))
      (λ e. where_pass (n + b) t e ∙ rest ∙ sym (where_pass n t e))

  -- they pass what each such nonzero's column passes
  pub where_each :
      (p : ℕ → Bool) (n t : ℕ) → ((s : ℕ) → t ≤ s → s < t + n → test s ≡ true → p (column s) ≡ true) →
      each p (columns_where test column n t) ≡ true
  unfolding columns_where
  where_each p zero t h = each_none p
  where_each p (suc n) t h =
      let rest = where_each p n (suc t) (λ s a b. h s (omega arith) (omega arith)) in
      by_test
      (test t)
      (λ e. ap (each p) (where_take n t e) ∙ each_more p (column t) _ (h t (omega arith) (omega arith) e) rest)
      (λ e. ap (each p) (where_pass n t e) ∙ rest)

  -- and the other way round
  pub each_where :
      (p : ℕ → Bool) (n t : ℕ) → each p (columns_where test column n t) ≡ true →
      (s : ℕ) → t ≤ s → s < t + n → test s ≡ true → p (column s) ≡ true
  each_where p zero t all s a b e = no_way (omega arith)
  each_where p (suc n) t all s a b e =
      by_test
      (test t)
      (λ h. let own = sym (ap (each p) (where_take n t h)) ∙ all in
      ⊎_elim
      (λ q. ap (λ (x : ℕ). p (column x)) (sym q) ∙ each_first p (column t) _ own)
      (λ l. each_where p n (suc t) (each-rest p (column t) _ own) s (omega arith) (omega arith) e)
      (eq-or-lt_of_le a))
      (λ h. ⊎_elim
      (λ q. clash e (ap test (sym q) ∙ h))
      (λ l. each_where p n (suc t) (sym (ap (each p) (where_pass n t h)) ∙ all) s (omega arith) (omega arith) e)
      (eq-or-lt_of_le a))

  -- one nonzero more
  where_counts :
      (n t : ℕ) → length (columns_where test column (suc n) t) ≡ bit (test t) + length (columns_where test column n (suc t))
  where_counts n t =
      by_test
      (test t)
      (λ e. omega (arith, ap length (where_take n t e), bit-true (test t) e))
      (λ e. omega (arith, ap length (where_pass n t e), bit-false (test t) e))

  -- as many as pass
  pub where_length : (n t : ℕ) → length (columns_where test column n t) ≡ count (λ s. test (t + s)) n
  unfolding columns_where sum
  where_length zero t = refl
  where_length (suc n) t =
      let f : ℕ → ℕ = λ s. bit (test (t + s)) in
      let first : t + 0 ≡ t = omega arith in
      let one : 1 + n ≡ suc n = omega arith in
      let all : sum f (1 + n) ≡ sum f n + f n = ap (sum f) one in
      omega (
        arith,
        where_counts n t,
        where_length n (suc t),
        sum_eq
            (λ s. bit (test (suc t + s)))
            (λ s. f (1 + s))
            n
            (λ s b. let q : suc t + s ≡ t + (1 + s) = omega arith in
            ap (λ (x : ℕ). bit (test x)) q),
        sum_more f 1 n,
        all,
        ap (λ (x : ℕ). bit (test x)) first,
      )

-- two tests and two columns of each nonzero that agree
pub where_eq :
    (p q : ℕ → Bool) (f g : ℕ → ℕ) (n t : ℕ) →
    ((s : ℕ) → t ≤ s → s < t + n → p s ≡ q s) → ((s : ℕ) → t ≤ s → s < t + n → f s ≡ g s) →
    columns_where p f n t ≡ columns_where q g n t
unfolding columns_where
where_eq p q f g zero t h k = refl
where_eq p q f g (suc n) t h k =
    let rest = where_eq p q f g n (suc t) (λ s a b. h s (omega arith) (omega arith)) (λ s a b. k s (omega arith) (omega arith)) in
    rw (h t (omega arith) (omega arith), k t (omega arith) (omega arith), rest) refl

module _ (P : Pattern) (μ : Marking) where
  -- the conflict columns of a row are joined to it
  pub conflict-joined : (i : ℕ) → each (joined P μ i) (conflict_columns P μ i) ≡ true
  unfolding conflict_columns conflict_of
  conflict-joined i =
      where_each
      (conflict_of P μ i)
      P.column
      (joined P μ i)
      P.size
      0
      (λ s a b e. ap
      (λ (r : ℕ). joined P μ r (P.column s))
      (sym (eqb-true (P.row s) i (and_right (conflict P μ s) _ e)))
      ∙ joined_by P μ s (omega arith) (and_left _ _ e))

  -- and all columns that are joined to it are among them
  pub joined_passes :
      (p : ℕ → Bool) (i j : ℕ) → each p (conflict_columns P μ i) ≡ true → joined P μ i j ≡ true → p j ≡ true
  unfolding conflict_columns conflict_of
  joined_passes p i j all e =
      let w = joined-meeting P μ i j e in
      let t = w.0 in
      let b = w.1 in
      ap p (sym (meeting_column P μ i j t w.2))
      ∙ each_where
      (conflict_of P μ i)
      P.column
      p
      P.size
      0
      all
      t
      (omega arith)
      (omega arith)
      (and_intro
      (meeting-conflict P μ i j t w.2)
      (eq-eqb (P.row t) i (meeting-row P μ i j t w.2)))

  -- they lie in the matrix
  pub conflict_inside : Inside P → (i : ℕ) → each (λ j. ltb j P.n) (conflict_columns P μ i) ≡ true
  conflict_inside inside i =
      each_mono
      (joined P μ i)
      (λ j. ltb j P.n)
      (conflict_columns P μ i)
      (λ j e. lt-ltb j P.n (joined-column_in P μ i j inside e))
      (conflict-joined i)

  -- as many as the conflicts of the row
  pub conflict-length : (i : ℕ) → length (conflict_columns P μ i) ≡ count (conflict_of P μ i) P.size
  unfolding conflict_columns
  conflict-length i =
      where_length (conflict_of P μ i) P.column P.size 0
      ∙ sum_eq
      (λ t. bit (conflict_of P μ i (0 + t)))
      (λ t. bit (conflict_of P μ i t))
      P.size
      (λ t b. let q : 0 + t ≡ t = omega arith in
      ap (λ (x : ℕ). bit (conflict_of P μ i x)) q)

  -- those of all rows together are the conflicts
  pub conflict_total : Inside P → sum (λ i. length (conflict_columns P μ i)) P.m ≡ conflicts P μ
  unfolding conflicts conflict_of
  conflict_total inside =
      sum_eq
      (λ i. length (conflict_columns P μ i))
      (λ i. count (conflict_of P μ i) P.size)
      P.m
      (λ i b. conflict-length i)
      ∙ count-by_value (conflict P μ) P.row P.size P.m inside.row-in
