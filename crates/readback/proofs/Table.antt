-- The table of cells after entries one after another: each cell has its entry's mark, and all others are empty.
-- Assumes nothing.
use mathlib.Core.Bool.{true, false, not}
use mathlib.Core.List.{List}
use mathlib.Core.Path.{◌≡◌, sym, ◌∙◌, ap}
use mathlib.Core.Logic.{⊎_elim}
use Prim.Native.Nat.{ℕ, zero, suc, ◌+◌, ◌*◌, ◌/◌, ◌%◌, ◌≤◌, ◌<◌}
use native.Mathlib.Nat.{eq-or-lt_of_le, le_of_suc-le-suc, mul-add-div, mul-add-mod_self_left, div-eq_of_lt, mod-eq_of_lt}
use native.Mathlib.Omega.{arith}
use lib.Dec.{ltb, eqb}
use lib.ListN.{length, get_or, set, replicate, length-set, length-replicate, get_or-replicate, get_or-eq_default}
use lib.Seq.{get_or-set_same, get_or-set_other, set-get_or}
use borrow.Author.Tests.{ltb-true, ltb-false, eqb-true, eqb-false, eq-eqb, ne_eqb}
use Rattle.counting.proofs.Joined.{no_way, by_test, clash, pick_true, pick-false}
use Rattle.model.specs.Limits.{line_limit}
use Rattle.texts.specs.Entries.{cell_room, cell_of, no_cells, is_given, cell_mark}
use Rattle.readback.proofs.Rising.{Rising, rising}

-- the table after the first entries, entry t with its cell and its mark
unfoldable pub table_of : (ℕ → ℕ) → (ℕ → ℕ) → ℕ → List ℕ
table_of cell mark zero = no_cells
table_of cell mark (suc t) = set (table_of cell mark t) (cell t) (mark t)

-- row and column of a cell
pub cell_row : (i j : ℕ) → j < line_limit → (line_limit * i + j) / line_limit ≡ i
cell_row i j l = mul-add-div {m = line_limit} (omega arith) i j ∙ omega (arith, div-eq_of_lt l)

pub cell_column : (i j : ℕ) → j < line_limit → (line_limit * i + j) % line_limit ≡ j
cell_column i j l = mul-add-mod_self_left line_limit i j ∙ mod-eq_of_lt l

-- the cell of a row and a column counted from 0
pub cell_is : (i j : ℕ) → cell_of (i + 1) (j + 1) ≡ line_limit * i + j
unfolding cell_of
cell_is i j = omega arith

-- p is 1 or 2, and so is its mark
pub mark-is : (p : ℕ) → 1 ≤ p → p ≤ 2 → cell_mark p ≡ p
unfolding cell_mark
mark-is p some few =
    by_test
    (eqb p 1)
    (λ e. pick_true 1 2 e ∙ sym (eqb-true p 1 e))
    (λ e. let ne = eqb-false p 1 e in pick-false 1 2 e ∙ omega arith)

-- the mark that a part leaves in a cell
pub mark_range : (p : ℕ) → (1 ≤ cell_mark p) × (cell_mark p ≤ 2)
unfolding cell_mark
mark_range p =
    by_test
    (eqb p 1)
    (λ e. let q : cell_mark p ≡ 1 = pick_true 1 2 e in (omega arith, omega arith))
    (λ e. let q : cell_mark p ≡ 2 = pick-false 1 2 e in (omega arith, omega arith))

-- a cell that gets the mark that it has stays as it is
pub mark_again : (cells : List ℕ) (p mark : ℕ) → p < length cells → set (set cells p mark) p mark ≡ set cells p mark
mark_again cells p mark l =
    ap (set (set cells p mark) p) (sym (get_or-set_same cells p mark 0 l)) ∙ set-get_or (set cells p mark) p 0

pub none-length : length no_cells ≡ cell_room
unfolding no_cells
none-length = length-replicate {A = ℕ} cell_room 0

pub none-there : (p : ℕ) → get_or no_cells p 0 ≡ 0
unfolding no_cells
none-there p =
    by_test
    (ltb p cell_room)
    (λ e. get_or-replicate cell_room p 0 0 (ltb-true p cell_room e))
    (λ e. let l = ltb-false p cell_room e in
    get_or-eq_default (replicate cell_room 0) 0 {n = p} (omega (arith, length-replicate {A = ℕ} cell_room 0)))

pub given_mark : (cells : List ℕ) (p : ℕ) → (get_or cells p 0 ≡ 0 → ⊥) → is_given cells p ≡ true
unfolding is_given
given_mark cells p h = ap not (ne_eqb (get_or cells p 0) 0 h)

pub not-given : (cells : List ℕ) (p : ℕ) → get_or cells p 0 ≡ 0 → is_given cells p ≡ false
unfolding is_given
not-given cells p h = ap not (eq-eqb (get_or cells p 0) 0 h)

module _ (cell mark : ℕ → ℕ) where
  pub table-length : (t : ℕ) → length (table_of cell mark t) ≡ cell_room
  unfolding table_of
  table-length zero = none-length
  table-length (suc t) = length-set (table_of cell mark t) (cell t) (mark t) ∙ table-length t

  -- what is given is the cell of an entry
  pub table-given : (t p : ℕ) → is_given (table_of cell mark t) p ≡ true → (s : ℕ) × (s < t) × (p ≡ cell s)
  unfolding table_of is_given
  table-given zero p e = clash e (not-given no_cells p (none-there p))
  table-given (suc t) p e =
      by_test
      (eqb p (cell t))
      (λ z. (t, omega arith, eqb-true p (cell t) z))
      (λ z. let other = get_or-set_other (table_of cell mark t) (cell t) p (mark t) 0 (eqb-false p (cell t) z) in
      let w = table-given t p (ap (λ b. not (eqb b 0)) (sym other) ∙ e) in
      (w.0, omega (arith, w.1), w.2))

  -- an entry's cell has its mark
  pub table_mark :
      {top : ℕ} → Rising cell top → (t s : ℕ) → t ≤ top → s < t → cell s < cell_room → get_or (table_of cell mark t) (cell s) 0 ≡ mark s
  unfolding table_of
  table_mark r zero s b l h = no_way (omega arith)
  table_mark r (suc t) s b l h =
      ⊎_elim
      (λ e. ap (λ k. get_or (set (table_of cell mark t) (cell t) (mark t)) (cell k) 0) e
      ∙ get_or-set_same (table_of cell mark t) (cell t) (mark t) 0 (omega (arith, table-length t, ap cell e))
      ∙ ap mark (sym e))
      (λ k. get_or-set_other (table_of cell mark t) (cell t) (cell s) (mark t) 0 (λ e. omega (arith, rising r s t k (omega arith)))
      ∙ table_mark r t s (omega arith) k h)
      (eq-or-lt_of_le (le_of_suc-le-suc l))
