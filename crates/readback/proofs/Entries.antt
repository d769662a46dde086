-- The entries of a written text are read back into the table of cells.
-- Assumes nothing.
use mathlib.Core.Bool.{true, false}
use Rattle.std.specs.Prelude.{Ok}
use mathlib.Core.List.{List}
use mathlib.Core.Path.{◌≡◌, refl, sym, ◌∙◌, ap}
use Prim.Native.Nat.{ℕ, zero, suc, ◌+◌, ◌^◌, ◌≤◌, ◌<◌}
use native.Mathlib.Numerals.{add-one}
use native.Mathlib.Omega.{arith}
use lib.Dec.{ltb}
use lib.ListN.{length, get_or, set}
use borrow.Author.Tests.{ne_eqb, lt-leb, le-ltb}
use Rattle.counting.proofs.Joined.{fails, and_fails_left, or_fails, pick-false}
use Rattle.model.specs.Refusal.{accepted}
use Rattle.model.specs.declared.Word.TheVariants.{OffMatrix, Repeated, Count, BadPart, AboveDiagonal}
use Rattle.model.specs.Pattern.{row_in, column_in}
use Rattle.model.specs.Calls.{outside}
use Rattle.model.proofs.Theorems.Checks.{refuse_no, then_accepted}
use Rattle.scanning.specs.declared.Field.TheVariants.{Integer}
use Rattle.scanning.specs.declared.Numbers.{Numbers}
use Rattle.scanning.specs.Lines.{line_next, empty_line}
use Rattle.scanning.specs.Words.{numbers_in}
use Rattle.texts.specs.declared.Header.{Header}
use Rattle.texts.specs.Entries.{entry_at, cell_of, no_cells, is_given, cell_mark, above_diagonal, entry_check, line_verdict, opened, noted, end_verdict, entries_from}
use Rattle.texts.proofs.Cells.{mirror_general, ended, entries-on, entries_end, entries-one}
use Rattle.writing.specs.Written.{sizes_text, entry_text, entries_text}
use Rattle.writing.proofs.Held.{Holds}
use Rattle.writing.proofs.Back.{line_over, sizes_length}
use Rattle.writing.proofs.Rows.{row_next, row-filled, row_numbers}
use Rattle.readback.proofs.Rising.{rising}
use Rattle.readback.proofs.Table.{table_of, table-length, table-given, cell_is, mark-is, mark_again}
use Rattle.readback.proofs.Accepted.{cell_in, Fine}
use Rattle.readback.proofs.Lines.{entries_none, entries-length, entries_rise, held_entry}

-- the mark of nonzero t in its cell
abbrev pub mark_in : List ℕ → ℕ → ℕ
mark_in parts t = get_or parts t 0 + 1

-- the header of a written text: size line at `at`, entries from `start` on
abbrev pub head_of : ℕ → ℕ → ℕ → ℕ → ℕ → Header
head_of m n nonzeros at start =
    record {
      fine = true;
      field = Integer;
      symmetric = false;
      sized = true;
      m = m;
      n = n;
      entries = nonzeros;
      at = at;
      next = start;
    }

inside_range : (limit x : ℕ) → x < limit → outside limit (x + 1) ≡ false
unfolding outside
inside_range limit x l = or_fails (ne_eqb (x + 1) 0 (λ e. omega arith)) (le-ltb limit (x + 1) (omega arith))

module _
    (text : List ℕ) {m n nonzeros : ℕ} {list parts : List ℕ} (split : Fine m n nonzeros list parts) (at start : ℕ)
    (held : Holds text start (entries_text list parts nonzeros)) (size : length text ≡ start + length (entries_text list parts nonzeros)) where
  abbrev h : Header
  h = head_of m n nonzeros at start

  -- where line t starts
  abbrev here : ℕ → ℕ
  here t = start + length (entries_text list parts t)

  abbrev table : ℕ → List ℕ
  table t = table_of (cell_in list) (mark_in parts) t

  -- line t is entry t
  module _ (t : ℕ) (l : t < nonzeros) where
    abbrev entry : Numbers
    entry = record { first = row_in list t + 1; second = column_in list t + 1; third = get_or parts t 0 + 1 }

    held_row : Holds text (here t) (sizes_text (row_in list t + 1) (column_in list t + 1) (get_or parts t 0 + 1))
    unfolding entry_text
    held_row = held_entry list parts nonzeros t held l

    row_small : row_in list t + 1 < 10 ^ 9
    row_small = omega (arith, split.rows, split.row-in t l)

    column_small : column_in list t + 1 < 10 ^ 9
    column_small = omega (arith, split.columns, split.column-in t l)

    part_small : get_or parts t 0 + 1 < 10 ^ 9
    part_small = omega (arith, split.part_in t l)

    over : line_over (here t) (row_in list t + 1) (column_in list t + 1) (get_or parts t 0 + 1) + 1 ≡ here (suc t)
    unfolding entry_text
    over =
        omega (arith, sizes_length (here t) (row_in list t + 1) (column_in list t + 1) (get_or parts t 0 + 1), entries-length list parts t)

    room : line_over (here t) (row_in list t + 1) (column_in list t + 1) (get_or parts t 0 + 1) < length text
    room = omega (arith, over, size, entries_rise list parts (suc t) nonzeros l)

    filled : empty_line text (here t) ≡ false
    filled = row-filled text (here t) (row_in list t + 1) (column_in list t + 1) (get_or parts t 0 + 1) held_row row_small column_small part_small room

    next : line_next text (here t) ≡ here (suc t)
    next =
        row_next text (here t) (row_in list t + 1) (column_in list t + 1) (get_or parts t 0 + 1) held_row row_small column_small part_small room ∙ over

    entry_back : entry_at text h (here t) ≡ Ok entry
    unfolding entry_at
    entry_back =
        row_numbers text (here t) (row_in list t + 1) (column_in list t + 1) (get_or parts t 0 + 1) held_row row_small column_small part_small room

    -- no entry before it has its cell
    fresh : is_given (table t) (cell_of (row_in list t + 1) (column_in list t + 1)) ≡ false
    fresh =
        ap (is_given (table t)) (cell_is (row_in list t) (column_in list t))
        ∙ fails
        (is_given (table t) (cell_in list t))
        (λ e. let w = table-given (cell_in list) (mark_in parts) t (cell_in list t) e in
        omega (arith, w.2, rising split.in_order w.0 t w.1 l))

    check : entry_check h (Ok entry) (here t) (table t) ≡ accepted
    unfolding entry_check above_diagonal
    check =
        then_accepted
        _
        (then_accepted
        _
        (then_accepted
        _
        (refuse_no OffMatrix (here t) (or_fails (inside_range m (row_in list t) (split.row-in t l)) (inside_range n (column_in list t) (split.column-in t l))))
        ∙ refuse_no AboveDiagonal (here t) (and_fails_left (ltb (row_in list t + 1) (column_in list t + 1)) refl))
        ∙ refuse_no BadPart (here t) (inside_range 2 (get_or parts t 0) (omega (arith, split.part_in t l))))
        ∙ refuse_no Repeated (here t) fresh

    verdict : line_verdict text h (here t) t (table t) ≡ accepted
    unfolding line_verdict
    verdict =
        pick-false accepted _ filled
        ∙ then_accepted _ (refuse_no Count (here t) (lt-leb nonzeros t l))
        ∙ ap (λ e. entry_check h e (here t) (table t)) entry_back
        ∙ check

    -- one nonzero, noted in one cell
    noted_once : opened h entry (table t) ≡ set (table t) (cell_of (row_in list t + 1) (column_in list t + 1)) (cell_mark (get_or parts t 0 + 1))
    unfolding opened cell_of
    noted_once =
        let cell = cell_of (row_in list t + 1) (column_in list t + 1) in
        let mark = cell_mark (get_or parts t 0 + 1) in
        ap (λ q. set (set (table t) cell mark) q mark) (mirror_general h entry refl)
        ∙ mark_again
        (table t)
        cell
        mark
        (omega (arith, table-length (cell_in list) (mark_in parts) t, split.rows, split.row-in t l, split.columns, split.column-in t l))

    new-table : table (suc t) ≡ noted text h (here t) (table t)
    unfolding noted table_of
    new-table =
        sym
        (pick-false (table t) _ filled
        ∙ ap (λ e. opened h (numbers_in e) (table t)) entry_back
        ∙ noted_once
        ∙ ap (λ c. set (table t) c (cell_mark (get_or parts t 0 + 1))) (cell_is (row_in list t) (column_in list t))
        ∙ ap (set (table t) (cell_in list t)) (mark-is (get_or parts t 0 + 1) (omega arith) (omega (arith, split.part_in t l))))

    one_more :
        entries_from text h (length text) (here (suc t)) (suc t) (table (suc t)) ≡ entries_from text h (length text) (here t) t (table t)
    one_more =
        ap (λ k. entries_from text h (length text) (here (suc t)) k (table (suc t))) (sym (add-one t))
        ∙ entries-on text h (here t) t (here (suc t)) 1 (table t) (table (suc t)) (omega (arith, room)) verdict (entries-one (empty_line text (here t)) filled) new-table (sym next)

  -- after t lines
  walked :
      (t : ℕ) → t ≤ nonzeros → entries_from text h (length text) (here t) t (table t) ≡ entries_from text h (length text) (here 0) 0 (table 0)
  walked zero b = refl
  walked (suc t) b = one_more t b ∙ walked t (omega arith)

  first_line_lem : entries_from text h (length text) (here 0) 0 (table 0) ≡ entries_from text h (length text) start 0 no_cells
  unfolding table_of
  first_line_lem =
      let e : here 0 ≡ start = omega (arith, ap length (entries_none list parts)) in
      ap (λ k. entries_from text h (length text) k 0 no_cells) e

  -- all entries are read, and nothing is refused
  pub entries-back :
      entries_from text h (length text) start 0 no_cells
      ≡ (record { verdict = accepted; cells = table_of (cell_in list) (mark_in parts) nonzeros })
  unfolding ended end_verdict
  entries-back =
      sym (walked nonzeros (omega arith) ∙ first_line_lem)
      ∙ entries_end text h (length text) (here nonzeros) nonzeros (table nonzeros) (omega arith)
      ∙ ap (λ v. record { verdict = v; cells = table nonzeros }) (refuse_no Count (length text) (le-ltb nonzeros nonzeros (omega arith)))
