-- Laws of the most conflicts that can be chosen: the two ways of the last nonzero, and that no set of conflicts, no two in one line, is larger.
-- Assumes nothing.
use mathlib.Core.Bool.{Bool, true, false, not}
use mathlib.Core.Path.{◌≡◌, ap}
use Prim.Native.Nat.{ℕ, zero, suc, ◌+◌, ◌≤◌, ◌<◌}
use native.Mathlib.Omega.{arith}
use borrow.Author.Tests.{ne_eqb, not-true}
use Rattle.counting.specs.Tests.{◌and◌, ◌or◌}
use Rattle.counting.specs.Sums.{sum, count}
use Rattle.counting.proofs.Joined.{by_test, and_intro, and_left, and_right, or_fails, pick_true, pick-false, bit-true, bit-false}
use Rattle.model.specs.Pattern.{Pattern, Inside, row_line, column_line, on}
use Rattle.model.specs.Marking.{Marking}
use Rattle.model.specs.Bound.{conflict, most_chosen}

-- nonzero t is a conflict, and neither of its lines is used
unfoldable pub choosable : Pattern → Marking → (ℕ → Bool) → ℕ → Bool
choosable P μ used t =
    conflict P μ t and not (used (row_line P t)) and not (used (column_line P t))

-- the lines used once nonzero t is chosen
abbrev pub used_with : Pattern → (ℕ → Bool) → ℕ → ℕ → Bool
used_with P used t = λ l. used l or on P l t

-- what it takes for a nonzero to be choosable
pub choosable_intro :
    (P : Pattern) (μ : Marking) (used : ℕ → Bool) (t : ℕ) →
    conflict P μ t ≡ true → used (row_line P t) ≡ false → used (column_line P t) ≡ false →
    choosable P μ used t ≡ true
unfolding choosable
choosable_intro P μ used t c r k = and_intro (and_intro c (ap not r)) (ap not k)

-- a choosable nonzero is a conflict
pub choosable-conflict :
    (P : Pattern) (μ : Marking) (used : ℕ → Bool) (t : ℕ) →
    choosable P μ used t ≡ true → conflict P μ t ≡ true
unfolding choosable
choosable-conflict P μ used t e = and_left _ _ (and_left _ _ e)

-- its row is not used
pub choosable-row :
    (P : Pattern) (μ : Marking) (used : ℕ → Bool) (t : ℕ) →
    choosable P μ used t ≡ true → used (row_line P t) ≡ false
unfolding choosable
choosable-row P μ used t e =
    not-true (used (row_line P t)) (and_right (conflict P μ t) _ (and_left _ _ e))

-- its column is not used
pub choosable_column :
    (P : Pattern) (μ : Marking) (used : ℕ → Bool) (t : ℕ) →
    choosable P μ used t ≡ true → used (column_line P t) ≡ false
unfolding choosable
choosable_column P μ used t e = not-true (used (column_line P t)) (and_right _ _ e)

-- the last nonzero is left out, or chosen
pub most_at_most :
    (P : Pattern) (μ : Marking) (used : ℕ → Bool) (t k : ℕ) →
    most_chosen P μ used t ≤ k →
    (choosable P μ used t ≡ true → suc (most_chosen P μ (used_with P used t) t) ≤ k) →
    most_chosen P μ used (suc t) ≤ k
unfolding most_chosen choosable
most_at_most P μ used t k left taken =
    by_test
    (choosable P μ used t)
    (λ e. omega (arith, taken e, pick_true (suc (most_chosen P μ (used_with P used t) t)) 0 e))
    (λ e. omega (arith, pick-false (suc (most_chosen P μ (used_with P used t) t)) 0 e))

-- leaving the last nonzero out is one way
pub most_left_out :
    (P : Pattern) (μ : Marking) (used : ℕ → Bool) (t : ℕ) →
    most_chosen P μ used t ≤ most_chosen P μ used (suc t)
unfolding most_chosen
most_left_out P μ used t = omega arith

-- choosing it is another
pub most_chosen_lem :
    (P : Pattern) (μ : Marking) (used : ℕ → Bool) (t : ℕ) →
    choosable P μ used t ≡ true →
    suc (most_chosen P μ (used_with P used t) t) ≤ most_chosen P μ used (suc t)
unfolding most_chosen choosable
most_chosen_lem P μ used t e =
    omega (arith, pick_true (suc (most_chosen P μ (used_with P used t) t)) 0 e)

-- conflicts chosen among the first t nonzeros, no two in one line and none in a line that is used
pub record Chosen (P : Pattern) (μ : Marking) (used chosen : ℕ → Bool) (t : ℕ) : Type 0 where
  pub conflicts : (s : ℕ) → s < t → chosen s ≡ true → conflict P μ s ≡ true
  pub row_free : (s : ℕ) → s < t → chosen s ≡ true → used (row_line P s) ≡ false
  pub column_free : (s : ℕ) → s < t → chosen s ≡ true → used (column_line P s) ≡ false
  pub rows_apart :
      (s u : ℕ) → s < t → u < t → chosen s ≡ true → chosen u ≡ true → P.row s ≡ P.row u → s ≡ u
  pub columns_apart :
      (s u : ℕ) → s < t → u < t → chosen s ≡ true → chosen u ≡ true → P.column s ≡ P.column u → s ≡ u

-- conflicts so chosen, without the last nonzero
chosen_before :
    (P : Pattern) (μ : Marking) (used chosen : ℕ → Bool) (t : ℕ) →
    Chosen P μ used chosen (suc t) → Chosen P μ used chosen t
chosen_before P μ used chosen t c =
    record {
      conflicts = λ s b. c.conflicts s (omega arith);
      row_free = λ s b. c.row_free s (omega arith);
      column_free = λ s b. c.column_free s (omega arith);
      rows_apart = λ s u b d. c.rows_apart s u (omega arith) (omega arith);
      columns_apart = λ s u b d. c.columns_apart s u (omega arith) (omega arith);
    }

-- the row of a nonzero is not a line of a nonzero in another row
row_off :
    (P : Pattern) (s t : ℕ) → Inside P → s < P.size → (P.row s ≡ P.row t → ⊥) →
    on P (row_line P s) t ≡ false
unfolding on row_line column_line
row_off P s t inside b apart =
    or_fails
    (ne_eqb (P.row s) (P.row t) apart)
    (ne_eqb (P.row s) (P.m + P.column t) (λ e. omega (arith, inside.row-in s b)))

-- the column of a nonzero is not a line of a nonzero in another column
column_off :
    (P : Pattern) (s t : ℕ) → Inside P → t < P.size → (P.column s ≡ P.column t → ⊥) →
    on P (column_line P s) t ≡ false
unfolding on row_line column_line
column_off P s t inside b apart =
    or_fails
    (ne_eqb (P.m + P.column s) (P.row t) (λ e. omega (arith, inside.row-in t b)))
    (ne_eqb (P.m + P.column s) (P.m + P.column t) (λ e. apart (omega arith)))

-- where the last nonzero is chosen, the others lie in no line of it
chosen_others :
    (P : Pattern) (μ : Marking) (used chosen : ℕ → Bool) (t : ℕ) →
    Inside P → t < P.size → chosen t ≡ true →
    Chosen P μ used chosen (suc t) → Chosen P μ (used_with P used t) chosen t
chosen_others P μ used chosen t inside size last c =
    record {
      conflicts = λ s b. c.conflicts s (omega arith);
      row_free = λ s b e. or_fails
          (c.row_free s (omega arith) e)
          (row_off
          P
          s
          t
          inside
          (omega arith)
          (λ q. omega (arith, c.rows_apart s t (omega arith) (omega arith) e last q)));
      column_free = λ s b e. or_fails
          (c.column_free s (omega arith) e)
          (column_off
          P
          s
          t
          inside
          size
          (λ q. omega (arith, c.columns_apart s t (omega arith) (omega arith) e last q)));
      rows_apart = λ s u b d. c.rows_apart s u (omega arith) (omega arith);
      columns_apart = λ s u b d. c.columns_apart s u (omega arith) (omega arith);
    }

-- no set of conflicts, no two in one line, is larger than the most that can be chosen
pub chosen_most :
    (P : Pattern) (μ : Marking) (used chosen : ℕ → Bool) (t : ℕ) →
    Inside P → t ≤ P.size → Chosen P μ used chosen t → count chosen t ≤ most_chosen P μ used t
unfolding sum
chosen_most P μ used chosen zero inside size c = omega arith
chosen_most P μ used chosen (suc t) inside size c =
    by_test
    (chosen t)
    (λ e. let can = choosable_intro P μ used t (c.conflicts t (omega arith) e) (c.row_free t (omega arith) e) (c.column_free t (omega arith) e) in
    omega (
      arith,
      bit-true (chosen t) e,
      chosen_most P μ (used_with P used t) chosen t inside (omega arith) (chosen_others P μ used chosen t inside size e c),
      most_chosen_lem P μ used t can,
    ))
    (λ e. omega (
      arith,
      bit-false (chosen t) e,
      chosen_most P μ used chosen t inside (omega arith) (chosen_before P μ used chosen t c),
      most_left_out P μ used t,
    ))
