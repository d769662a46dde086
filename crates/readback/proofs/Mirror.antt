-- The cells of a line: its entry's own, and for symmetric the mirrored one.
-- Assumes nothing.
use mathlib.Core.Bool.{true}
use mathlib.Core.List.{List}
use mathlib.Core.Path.{◌≡◌, sym, ◌∙◌, ap, subst}
use mathlib.Core.Logic.{⊎_elim, inl, inr, ◌⊎◌}
use Prim.Native.Nat.{ℕ, ◌+◌, ◌-◌, ◌*◌, ◌/◌, ◌%◌, ◌≤◌}
use native.Mathlib.Omega.{arith}
use Rattle.counting.proofs.Joined.{by_test}
use Rattle.model.specs.Limits.{line_limit}
use Rattle.texts.specs.declared.Header.{Header}
use Rattle.texts.specs.Header.{header_of}
use Rattle.texts.specs.Entries.{cell_of, cell_mark, mirror_of}
use Rattle.texts.proofs.Cells.{mirror_symmetric, mirror_general}
use Rattle.readback.specs.TextSays.{entry_below, InForm, StandsFor}
use Rattle.readback.proofs.Table.{cell_row, cell_column, cell_is}
use Rattle.readback.proofs.Entered.{CellIn, cell_in}

-- the cell of line k below the size line, the one of its other nonzero, and its mark
abbrev pub cell_below : List ℕ → ℕ → ℕ
cell_below text k = cell_of (entry_below text k).first (entry_below text k).second

abbrev pub mirror_below : List ℕ → ℕ → ℕ
mirror_below text k = mirror_of (header_of text) (entry_below text k)

abbrev pub mark_below : List ℕ → ℕ → ℕ
mark_below text k = cell_mark (entry_below text k).third

-- a cell of line k
abbrev pub Own : List ℕ → ℕ → ℕ → Type 0
Own text k p = (cell_below text k ≡ p) ⊎ (mirror_below text k ≡ p)

-- row and column of a cell, counted from 1
module _ (i j : ℕ) (i-from : 1 ≤ i) (j-from : 1 ≤ j) (j-to : j ≤ line_limit) where
  row_of : cell_of i j / line_limit + 1 ≡ i
  unfolding cell_of
  row_of = omega (arith, cell_row (i - 1) (j - 1) (omega arith))

  column_of_lem : cell_of i j % line_limit + 1 ≡ j
  unfolding cell_of
  column_of_lem = omega (arith, cell_column (i - 1) (j - 1) (omega arith))

module _ (text : List ℕ) (rows : (header_of text).m ≤ line_limit) (columns : (header_of text).n ≤ line_limit) where
  abbrev h : Header
  h = header_of text

  -- a line stands for its cells
  pub own-stands : (k p : ℕ) → InForm text k → Own text k p → StandsFor h (entry_below text k) (p / line_limit + 1) (p % line_limit + 1)
  own-stands k p f o =
      let i = (entry_below text k).first in
      let j = (entry_below text k).second in
      let i-to : i ≤ line_limit = omega (arith, f.row_to) in
      let j-to : j ≤ line_limit = omega (arith, f.column_to) in
      let own : cell_below text k ≡ p → (i ≡ p / line_limit + 1) × (j ≡ p % line_limit + 1) =
      λ e. (
        sym (row_of i j f.row_from f.column_from j-to) ∙ ap (λ q. q / line_limit + 1) e,
        sym (column_of_lem i j f.row_from f.column_from j-to) ∙ ap (λ q. q % line_limit + 1) e,
      ) in
      ⊎_elim
      (λ e. inl (own e))
      (λ e. by_test
      h.symmetric
      (λ s. let other = sym (mirror_symmetric h (entry_below text k) s) ∙ e in
      inr (
        s,
        sym (row_of j i f.column_from f.row_from i-to) ∙ ap (λ q. q / line_limit + 1) other,
        sym (column_of_lem j i f.column_from f.row_from i-to) ∙ ap (λ q. q % line_limit + 1) other,
      ))
      (λ s. inl (own (sym (mirror_general h (entry_below text k) s) ∙ e))))
      o

  -- and what it stands for is one of its cells
  pub stands-own : (k row column : ℕ) → StandsFor h (entry_below text k) (row + 1) (column + 1) → Own text k (line_limit * row + column)
  stands-own k row column s =
      ⊎_elim
      (λ w. inl (ap (λ i. cell_of i (entry_below text k).second) w.0 ∙ ap (cell_of (row + 1)) w.1 ∙ cell_is row column))
      (λ w. inr
      (mirror_symmetric h (entry_below text k) w.0
      ∙ ap (λ i. cell_of i (entry_below text k).first) w.1
      ∙ ap (cell_of (row + 1)) w.2
      ∙ cell_is row column))
      s

  -- two lines that stand for one nonzero have the same row and column
  same_entry :
      (j k row column : ℕ) → InForm text j → InForm text k → StandsFor h (entry_below text j) row column → StandsFor h (entry_below text k) row column →
      ((entry_below text j).first ≡ (entry_below text k).first) × ((entry_below text j).second ≡ (entry_below text k).second)
  same_entry j k row column f g a b =
      ⊎_elim
      (λ x. ⊎_elim
      (λ y. (x.0 ∙ sym y.0, x.1 ∙ sym y.1))
      (λ y. let u = f.below y.0 in
      let v = g.below y.0 in
      (omega (arith, x.0, x.1, y.1, y.2), omega (arith, x.0, x.1, y.1, y.2)))
      b)
      (λ x. ⊎_elim
      (λ y. let u = f.below x.0 in
      let v = g.below x.0 in
      (omega (arith, x.1, x.2, y.0, y.1), omega (arith, x.1, x.2, y.0, y.1)))
      (λ y. (x.2 ∙ sym y.2, x.1 ∙ sym y.1))
      b)
      a

  pub same_cell :
      (j k row column : ℕ) → InForm text j → InForm text k → StandsFor h (entry_below text j) row column → StandsFor h (entry_below text k) row column →
      cell_below text j ≡ cell_below text k
  same_cell j k row column f g a b =
      let e = same_entry j k row column f g a b in
      ap (λ i. cell_of i (entry_below text j).second) e.0 ∙ ap (cell_of (entry_below text k).first) e.1

  -- its cells are in the matrix
  pub own_in : (k p : ℕ) → (h.symmetric ≡ true → h.m ≡ h.n) → InForm text k → Own text k p → CellIn h.m h.n p
  unfolding cell_of
  own_in k p square f o =
      let i = (entry_below text k).first in
      let j = (entry_below text k).second in
      let i-from = f.row_from in
      let j-from = f.column_from in
      let i-to = f.row_to in
      let j-to = f.column_to in
      let own : CellIn h.m h.n (cell_below text k) = cell_in h.m h.n (i - 1) (j - 1) columns (omega arith) (omega arith) in
      ⊎_elim
      (λ e. subst (CellIn h.m h.n) e own)
      (λ e. by_test
      h.symmetric
      (λ s. subst
      (CellIn h.m h.n)
      (sym (mirror_symmetric h (entry_below text k) s) ∙ e)
      (cell_in h.m h.n (j - 1) (i - 1) columns (omega (arith, square s)) (omega (arith, square s))))
      (λ s. subst (CellIn h.m h.n) (sym (mirror_general h (entry_below text k) s) ∙ e) own))
      o
