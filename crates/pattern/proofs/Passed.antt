-- The first nonzeros of a list that are passed over: each lies in the matrix, in a later cell than the one before it.
-- Assumes nothing.
use mathlib.Core.Bool.{true, false, not}
use mathlib.Core.List.{List}
use mathlib.Core.Path.{◌≡◌, refl, sym, ◌∙◌, ap}
use Prim.Native.Nat.{ℕ, zero, suc, ◌+◌, ◌*◌, ◌≤◌, ◌<◌}
use native.Mathlib.Numerals.{add-one}
use native.Mathlib.Omega.{arith}
use lib.Dec.{ltb}
use borrow.Author.Tests.{lt-ltb, le-ltb, lt-leb, ltb-false, eq-eqb}
use Rattle.counting.proofs.Joined.{by_test, and_intro, or_left, or_right, or_fails}
use Rattle.model.specs.declared.Word.TheVariants.{SplitNumber, OffMatrix, Order}
use Rattle.model.specs.Limits.{line_limit}
use Rattle.model.specs.Pattern.{high_in, number_in, row_place, column_place, row_in, column_in}
use Rattle.model.specs.Refusal.{accepted, each_verdict}
use Rattle.model.specs.Calls.{rises, split_number, off_matrix, entry_verdict}
use Rattle.model.proofs.Theorems.Checks.{refuse_no, then_accepted, each_accepted, each_more, entry_column}

-- the cell of the nonzero before the t-th, cells counted from 1 with room for every column in a row; 0 before the first
unfoldable pub cell_before : List ℕ → ℕ → ℕ
cell_before list zero = 0
cell_before list (suc t) = 65536 * row_in list t + column_in list t + 1

-- so many are passed over, and this is the cell of the last of them
pub record Passed (m n : ℕ) (list : List ℕ) (t before : ℕ) : Type 0 where
  pub passed : each_verdict (entry_verdict m n list) t ≡ accepted
  pub cell : before ≡ cell_before list t

pub passed_none : (m n : ℕ) (list : List ℕ) → Passed m n list 0 0
unfolding each_verdict cell_before
passed_none m n list = record { passed = refl; cell = refl }

-- a later cell is one that rises
later-rises :
    (m n : ℕ) (list : List ℕ) (t : ℕ) → n ≤ line_limit → each_verdict (entry_verdict m n list) t ≡ accepted → column_in list t < n →
    cell_before list t < 65536 * row_in list t + column_in list t + 1 → rises list t ≡ true
unfolding cell_before rises
later-rises m n list zero small accepted column later = refl
later-rises m n list (suc s) small accepted column later =
    let thin = entry_column m n list s (each_accepted (entry_verdict m n list) (suc s) s accepted (omega arith)) in
    by_test
    (ltb (row_in list s) (row_in list (suc s)))
    (λ below. or_left _ below)
    (λ level.
    let high = ltb-false (row_in list s) (row_in list (suc s)) level in
    or_right _ (and_intro (eq-eqb (row_in list s) (row_in list (suc s)) (omega arith)) (lt-ltb (column_in list s) (column_in list (suc s)) (omega arith))))

module _ {m n : ℕ} {list : List ℕ} {t before : ℕ} (rows : m ≤ line_limit) (columns : n ≤ line_limit) (p : Passed m n list t before) (row : row_in list t < m) (column : column_in list t < n) (later : before < 65536 * row_in list t + column_in list t + 1) where
  -- no high byte is over 1
  whole : split_number list t ≡ false
  unfolding split_number row_in column_in number_in
  whole = or_fails (le-ltb 1 (high_in list (row_place t)) (omega arith)) (le-ltb 1 (high_in list (column_place t)) (omega arith))

  inside : off_matrix m n list t ≡ false
  unfolding off_matrix
  inside = or_fails (lt-leb m (row_in list t) row) (lt-leb n (column_in list t) column)

  passes : entry_verdict m n list t ≡ accepted
  unfolding entry_verdict
  passes =
      then_accepted _ (then_accepted _ (refuse_no SplitNumber t whole) ∙ refuse_no OffMatrix t inside)
      ∙ refuse_no Order t (ap not (later-rises m n list t columns p.passed column (omega (arith, p.cell))))

  -- one more
  pub passed_more : (cell : ℕ) → cell ≡ 65536 * row_in list t + column_in list t + 1 → Passed m n list (t + 1) cell
  unfolding cell_before
  passed_more cell e =
      record {
        passed = each_more (entry_verdict m n list) t p.passed passes;
        cell = e ∙ sym (ap (cell_before list) (add-one t));
      }
