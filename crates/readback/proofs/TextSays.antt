-- Of any text that is read, the list and the parts are what its lines after the size line say.
-- Assumes nothing.
use mathlib.Core.Bool.{Bool, true}
use mathlib.Core.List.{List}
use mathlib.Core.Path.{◌≡◌, sym, ◌∙◌, ap}
use mathlib.Core.Logic.{⊎_elim}
use Prim.Native.Nat.{ℕ, ◌+◌, ◌*◌, ◌/◌, ◌%◌, ◌≤◌, ◌<◌}
use native.Mathlib.Nat.{div-add-mod'}
use native.Mathlib.Omega.{arith}
use lib.Dec.{eqb, ltb}
use lib.ListN.{length, get_or}
use borrow.Author.Tests.{eqb-true, eqb-false, ltb-true, ltb-false}
use Rattle.counting.specs.Sums.{count}
use Rattle.counting.proofs.Joined.{by_test}
use Rattle.model.specs.Refusal.{accepted}
use Rattle.model.specs.Limits.{line_limit}
use Rattle.model.specs.Pattern.{row_in, column_in}
use Rattle.texts.specs.declared.Header.{Header}
use Rattle.texts.specs.Reading.{read_as}
use Rattle.texts.specs.Header.{header_of}
use Rattle.texts.specs.Entries.{is_given}
use Rattle.texts.specs.Reading.{read_verdict, cells_of, read_call, read_list, read_parts}
use Rattle.readback.specs.TextSays.{is_entry, entry_below, InForm, LineGives, TextGives, InList, TextSays}
use Rattle.counting.proofs.Passed.{count-later}
use Rattle.readback.proofs.Table.{cell_row, cell_column, mark-is}
use Rattle.readback.proofs.Given.{GivesList, GivesParts}
use Rattle.readback.proofs.Entered.{Entered, cell_before_lem}
use Rattle.readback.proofs.InOrder.{cell_of_lem, row_is, column_is}
use Rattle.readback.proofs.LinesBelow.{entry_among, entry_before, entries_all}
use Rattle.readback.proofs.Mirror.{Own, own-stands, stands-own, same_cell}
use Rattle.readback.proofs.Noted.{line_given}
use Rattle.readback.proofs.AllNoted.{AllNoted}
use Rattle.readback.proofs.AnyText.{lines, square, all, entered, general_number, symmetric_number, gives_list, gives_parts, answered}

-- a table of all lines, the list and the parts that it gives
module _
    (text : List ℕ) {cells : List ℕ} {nonzeros : ℕ} (rows : (header_of text).m ≤ line_limit) (columns : (header_of text).n ≤ line_limit) (whole : AllNoted text cells)
    (table : Entered (header_of text).m (header_of text).n cells nonzeros) where
  abbrev h : Header
  h = header_of text

  line_before : (k : ℕ) → is_entry text k ≡ true → k < whole.lines
  line_before k e = entry_before text whole.lines whole.over k e

  form_of : (k : ℕ) → is_entry text k ≡ true → InForm text k
  form_of k e = whole.noted_all.in_form k (line_before k e) e

  -- the cell of (row, column) is one of the line that gives it
  line_own : (k row column : ℕ) → LineGives text k (row + 1) (column + 1) → Own text k (line_limit * row + column)
  line_own k row column g = stands-own text rows columns k row column g.stands

  cell_given : (k row column : ℕ) → LineGives text k (row + 1) (column + 1) → is_given cells (line_limit * row + column) ≡ true
  cell_given k row column g =
      line_given whole.noted_all k (line_limit * row + column) (line_before k g.entry) g.entry (line_own k row column g)

  -- a cell that is given comes of a line
  given-says : (p : ℕ) → is_given cells p ≡ true → TextGives text (p / line_limit + 1) (p % line_limit + 1)
  given-says p g =
      let w = whole.noted_all.from_line p g in
      record {
        line = w.0;
        gives = record { entry = w.2; stands = own-stands text rows columns w.0 p (form_of w.0 w.2) w.3 };
      }

  module _ {list : List ℕ} (gives : GivesList cells (line_limit * h.m) list) where
    -- from the list to a line
    line_of : (row column : ℕ) → InList list nonzeros row column → TextGives text (row + 1) (column + 1)
    line_of row column l =
        let a = cell_of_lem table l.nonzero l.numbered in
        let at_row : a.0 / line_limit + 1 ≡ row + 1 = omega (arith, row_is table gives l.nonzero l.numbered, l.row_is) in
        let at_column : a.0 % line_limit + 1 ≡ column + 1 = omega (arith, column_is table gives l.nonzero l.numbered, l.column_is) in
        rw (sym at_row, sym at_column) (given-says a.0 a.2)

    -- from a line to the list
    nonzero_of : (row column : ℕ) → column < line_limit → TextGives text (row + 1) (column + 1) → InList list nonzeros row column
    nonzero_of row column small t =
        let p = line_limit * row + column in
        let given = cell_given t.line row column t.gives in
        let inside = cell_before_lem (table.inside p given) in
        record {
          nonzero = count (is_given cells) p;
          numbered = omega (arith, count-later (is_given cells) p (line_limit * h.m) given inside, table.total);
          row_is = gives.row p inside given ∙ cell_row row column small;
          column_is = gives.column p inside given ∙ cell_column row column small;
        }

    part_of :
        {parts : List ℕ} → GivesParts cells (line_limit * h.m) parts → (t k : ℕ) → t < nonzeros →
        LineGives text k (row_in list t + 1) (column_in list t + 1) → (entry_below text k).third ≡ get_or parts t 0 + 1
    part_of {parts} gives_parts t k l g =
        let a = cell_of_lem table t l in
        let p = a.0 in
        let f = form_of k g.entry in
        let here : line_limit * row_in list t + column_in list t ≡ p = omega (arith, row_is table gives t l, column_is table gives t l, div-add-mod' p line_limit) in
        let mark = whole.noted_all.marked k _ (line_before k g.entry) g.entry (line_own k (row_in list t) (column_in list t) g) in
        omega (
          arith,
          mark,
          mark-is (entry_below text k).third f.part_from f.part_to,
          ap (λ q. get_or cells q 0) here,
          gives_parts.part p a.1 a.2,
          ap (λ s. get_or parts s 0) a.3,
          f.part_from,
        )

  -- a line gives a column of the matrix
  column_small : (row column : ℕ) → TextGives text row (column + 1) → column < line_limit
  column_small row column t =
      let g = t.gives in
      let f = form_of t.line g.entry in
      ⊎_elim
      (λ w. omega (arith, w.1, f.column_to))
      (λ w. omega (arith, w.2, f.row_to))
      g.stands

  -- two lines that give the same nonzero are one
  same_line : (j k row column : ℕ) → LineGives text j row column → LineGives text k row column → j ≡ k
  same_line j k row column a b =
      let same = same_cell text rows columns j k row column (form_of j a.entry) (form_of k b.entry) a.stands b.stands in
      let once = whole.noted_all.once in
      by_test
      (eqb j k)
      (λ z. eqb-true j k z)
      (λ z. let ne = eqb-false j k z in
      by_test
      (ltb j k)
      (λ y. absurd (once j k (ltb-true j k y) (line_before k b.entry) a.entry b.entry same))
      (λ y. let le = ltb-false j k y in
      absurd (once k j (omega arith) (line_before j a.entry) b.entry a.entry (sym same))))

  entries-number : count (is_entry text) (length text) ≡ h.entries
  entries-number = entries_all text whole.lines whole.over (is_entry text) (λ k e. e) ∙ whole.number

-- of a text that is read, a cell is given exactly if a line gives it
module _ (text list parts : List ℕ) {m n nonzeros : ℕ} {integer : Bool} (e : read_call text list parts ≡ read_as m n nonzeros integer) where
  abbrev v : read_verdict text list parts ≡ accepted
  v = (answered text list parts e).accepted

  pub cell_says : (p : ℕ) → is_given (cells_of text) p ≡ true → TextGives text (p / line_limit + 1) (p % line_limit + 1)
  cell_says p g = given-says text (lines text list parts v).0 (lines text list parts v).1 (all text list parts v) (entered text list parts v) p g

  pub says_cell : (p : ℕ) → TextGives text (p / line_limit + 1) (p % line_limit + 1) → is_given (cells_of text) p ≡ true
  says_cell p t =
      let whole : p ≡ line_limit * (p / line_limit) + p % line_limit = omega (arith, div-add-mod' p line_limit) in
      ap (is_given (cells_of text)) whole
      ∙ cell_given text (lines text list parts v).0 (lines text list parts v).1 (all text list parts v) (entered text list parts v) t.line (p / line_limit) (p % line_limit) t.gives

-- what a text that is read says
pub text_says :
    (text list parts : List ℕ) (m n nonzeros : ℕ) (integer : Bool) → read_call text list parts ≡ read_as m n nonzeros integer →
    TextSays text (read_list text list parts) (read_parts text list parts) m n nonzeros integer
text_says text list parts m n nonzeros integer e =
    let a = answered text list parts e in
    let v = a.accepted in
    let rows = (lines text list parts v).0 in
    let columns = (lines text list parts v).1 in
    let whole = all text list parts v in
    let table = entered text list parts v in
    let gives = gives_list text list parts v in
    rw
    (sym a.nonzeros_are)
    (record {
      m_is = a.m_is;
      n_is = a.n_is;
      square = λ s. sym a.m_is ∙ square text list parts v s ∙ a.n_is;
      integer_is = a.integer_is;
      in_form = form_of text rows columns whole table;
      among = entry_among text;
      entries_are = entries-number text rows columns whole table;
      number = general_number text list parts v;
      opened_number = symmetric_number text list parts v;
      once = same_line text rows columns whole table;
      list_says =
          λ row column. (
            line_of text rows columns whole table gives row column,
            λ t. nonzero_of text rows columns whole table gives row column (column_small text rows columns whole table (row + 1) column t) t,
          );
      parts_say = λ i. part_of text rows columns whole table gives (gives_parts text list parts v (a.integer_is ∙ i));
    })
