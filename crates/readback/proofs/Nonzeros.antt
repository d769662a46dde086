-- The table of a split's cells gives its nonzeros in order, with their parts.
-- Assumes nothing.
use mathlib.Core.Bool.{true}
use mathlib.Core.List.{List}
use mathlib.Core.Path.{◌≡◌, sym, ◌∙◌, ap}
use Prim.Native.Nat.{ℕ, ◌+◌, ◌*◌, ◌/◌, ◌%◌, ◌<◌}
use native.Mathlib.Omega.{arith}
use lib.ListN.{get_or}
use Rattle.counting.specs.Sums.{count}
use Rattle.model.specs.Limits.{line_limit}
use Rattle.model.specs.Pattern.{row_in, column_in}
use Rattle.texts.specs.Entries.{is_given}
use Rattle.readback.proofs.Rising.{count-before, count-whole}
use Rattle.readback.proofs.Table.{table_of, cell_row, cell_column, given_mark, table-given, table_mark}
use Rattle.readback.proofs.Given.{GivesList, GivesParts}
use Rattle.readback.proofs.Accepted.{cell_in, Fine}
use Rattle.readback.proofs.Entries.{mark_in}

module _ {m n nonzeros : ℕ} {list parts : List ℕ} (split : Fine m n nonzeros list parts) where
  abbrev table : List ℕ
  table = table_of (cell_in list) (mark_in parts) nonzeros

  cell_inside : (t : ℕ) → t < nonzeros → cell_in list t < line_limit * m
  cell_inside t l = omega (arith, split.columns, split.row-in t l, split.column-in t l)

  mark_back : (t : ℕ) → t < nonzeros → get_or table (cell_in list t) 0 ≡ get_or parts t 0 + 1
  mark_back t l =
      table_mark (cell_in list) (mark_in parts) split.in_order nonzeros t (omega arith) l (omega (arith, cell_inside t l, split.rows))

  given : (t : ℕ) → t < nonzeros → is_given table (cell_in list t) ≡ true
  given t l = given_mark table (cell_in list t) (λ e. omega (arith, mark_back t l))

  -- the nonzero of a cell that is given: its number is how many are given before it
  nonzero_of : (p : ℕ) → is_given table p ≡ true → (count (is_given table) p < nonzeros) × (p ≡ cell_in list (count (is_given table) p))
  nonzero_of p e =
      let w = table-given (cell_in list) (mark_in parts) nonzeros p e in
      let c = ap (λ k. count (is_given table) k) w.2
      ∙ count-before (is_given table) split.in_order (table-given (cell_in list) (mark_in parts) nonzeros) given w.0 w.1 in
      (omega (arith, w.1), w.2 ∙ sym (ap (cell_in list) c))

  -- as many are given as there are
  pub all_given : count (is_given table) (line_limit * m) ≡ nonzeros
  all_given = count-whole (is_given table) split.in_order (table-given (cell_in list) (mark_in parts) nonzeros) given (line_limit * m) cell_inside

  pub gives_list : GivesList table (line_limit * m) list
  gives_list =
      record {
        row =
            λ p b e. let w = nonzero_of p e in
            let t = count (is_given table) p in
            sym (ap (λ k. k / line_limit) w.1 ∙ cell_row (row_in list t) (column_in list t) (omega (arith, split.column-in t w.0, split.columns)));
        column =
            λ p b e. let w = nonzero_of p e in
            let t = count (is_given table) p in
            sym (ap (λ k. k % line_limit) w.1 ∙ cell_column (row_in list t) (column_in list t) (omega (arith, split.column-in t w.0, split.columns)));
      }

  pub gives_parts : GivesParts table (line_limit * m) parts
  gives_parts =
      record {
        part =
            λ p b e. let w = nonzero_of p e in
            let t = count (is_given table) p in
            omega (arith, ap (λ k. get_or table k 0) w.1, mark_back t w.0);
      }
