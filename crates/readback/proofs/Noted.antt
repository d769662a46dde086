-- The table of cells after the first lines below the size line: a cell is given exactly if one of these lines gives it, with that line's mark.
-- Assumes nothing.
use mathlib.Core.Bool.{true, false, not}
use Rattle.std.specs.Prelude.{Result, Ok, Err}
use mathlib.Core.List.{List}
use mathlib.Core.Path.{◌≡◌, refl, sym, ◌∙◌, ap}
use mathlib.Core.Logic.{⊎_elim, inl, inr}
use Prim.Native.Nat.{ℕ, suc, ◌≤◌, ◌<◌}
use native.Mathlib.Nat.{eq-or-lt_of_le, le_of_suc-le-suc}
use native.Mathlib.Omega.{arith}
use lib.Dec.{eqb, ltb}
use lib.ListN.{length, get_or, set, length-set}
use lib.Seq.{get_or-set_same, get_or-set_other}
use borrow.Author.Tests.{eqb-true, eqb-false, ltb-false}
use Rattle.counting.proofs.Joined.{no_way, never, by_test, clash, fails, and-other, or_fails_left, or_fails_right}
use Rattle.model.specs.Refusal.{accepted}
use Rattle.model.specs.declared.Word.TheVariants.{OffMatrix, Repeated, BadPart, AboveDiagonal}
use Rattle.model.specs.Limits.{line_limit}
use Rattle.model.specs.Calls.{outside}
use Rattle.model.proofs.Theorems.Checks.{then-second, refuse-not, then-first, in_range}
use Rattle.scanning.specs.declared.Numbers.{Numbers}
use Rattle.scanning.specs.Words.{numbers_in}
use Rattle.texts.specs.declared.Header.{Header}
use Rattle.texts.specs.Header.{header_of}
use Rattle.texts.specs.Entries.{no_cells, is_given, entry_at, above_diagonal, entry_check, opened}
use Rattle.readback.specs.TextSays.{line_below, is_entry, entry_below, InForm}
use Rattle.readback.proofs.Table.{none-there, given_mark, not-given, mark_range}
use Rattle.readback.proofs.Mirror.{cell_below, mirror_below, mark_below, Own, own-stands, same_cell}

-- the table after so many lines
pub record Noted (text : List ℕ) (lines : ℕ) (cells : List ℕ) : Type 0 where
  pub in_form : (k : ℕ) → k < lines → is_entry text k ≡ true → InForm text k
  pub marked : (k p : ℕ) → k < lines → is_entry text k ≡ true → Own text k p → get_or cells p 0 ≡ mark_below text k
  pub from_line : (p : ℕ) → is_given cells p ≡ true → (k : ℕ) × (k < lines) × (is_entry text k ≡ true) × Own text k p
  pub once : (j k : ℕ) → j < k → k < lines → is_entry text j ≡ true → is_entry text k ≡ true → cell_below text j ≡ cell_below text k → ⊥

pub noted-start : (text : List ℕ) → Noted text 0 no_cells
noted-start text =
    record {
      in_form = λ k l e. no_way (omega arith);
      marked = λ k p l e o. no_way (omega arith);
      from_line = λ p g. clash g (not-given no_cells p (none-there p));
      once = λ j k l b e f q. omega arith;
    }

module _ {text : List ℕ} {lines : ℕ} {cells : List ℕ} (read : Noted text lines cells) where
  -- the cells of a line are given
  pub line_given : (k p : ℕ) → k < lines → is_entry text k ≡ true → Own text k p → is_given cells p ≡ true
  line_given k p l e o =
      given_mark cells p (λ z. omega (arith, read.marked k p l e o, (mark_range (entry_below text k).third).0))

  -- an empty line adds nothing
  pub empty_more : is_entry text lines ≡ false → Noted text (suc lines) cells
  empty_more empty =
      record {
        in_form =
            λ k l e. ⊎_elim
            (λ z. clash e (ap (is_entry text) z ∙ empty))
            (λ b. read.in_form k b e)
            (eq-or-lt_of_le (le_of_suc-le-suc l));
        marked =
            λ k p l e o. ⊎_elim
            (λ z. clash e (ap (is_entry text) z ∙ empty))
            (λ b. read.marked k p b e o)
            (eq-or-lt_of_le (le_of_suc-le-suc l));
        from_line =
            λ p g. let w = read.from_line p g in
            (w.0, omega (arith, w.1), w.2, w.3);
        once =
            λ j k a l e f q. ⊎_elim
            (λ z. clash f (ap (is_entry text) z ∙ empty))
            (λ b. read.once j k a b e f q)
            (eq-or-lt_of_le (le_of_suc-le-suc l));
      }

  -- an entry whose own cell was not given before
  module _
      (rows : (header_of text).m ≤ line_limit) (columns : (header_of text).n ≤ line_limit) (form : InForm text lines)
      (whole : (p : ℕ) → Own text lines p → p < length cells) (free : is_given cells (cell_below text lines) ≡ false) where
    abbrev first : List ℕ
    first = set cells (cell_below text lines) (mark_below text lines)

    abbrev new : List ℕ
    new = set first (mirror_below text lines) (mark_below text lines)

    apart : (k : ℕ) → k < lines → is_entry text k ≡ true → cell_below text k ≡ cell_below text lines → ⊥
    apart k l e q = clash (line_given k (cell_below text k) l e (inl refl)) (ap (is_given cells) q ∙ free)

    -- none of its cells was given
    pub own_free : (p : ℕ) → Own text lines p → is_given cells p ≡ false
    own_free p o =
        fails
        (is_given cells p)
        (λ g. let w = read.from_line p g in
        let k = w.0 in
        let before = read.in_form k w.1 w.2 in
        apart
        k
        w.1
        w.2
        (same_cell text rows columns k lines _ _ before form (own-stands text rows columns k p before w.3) (own-stands text rows columns lines p form o)))

    here : (p : ℕ) → Own text lines p → get_or new p 0 ≡ mark_below text lines
    here p o =
        let mark = mark_below text lines in
        let mirror = mirror_below text lines in
        let cell = cell_below text lines in
        let other = get_or-set_same first mirror mark 0 (omega (arith, length-set cells cell mark, whole mirror (inr refl))) in
        ⊎_elim
        (λ e. ap (λ q. get_or new q 0) (sym e)
        ∙ by_test
        (eqb cell mirror)
        (λ z. ap (λ q. get_or new q 0) (eqb-true cell mirror z) ∙ other)
        (λ z. get_or-set_other first mirror cell mark 0 (eqb-false cell mirror z) ∙ get_or-set_same cells cell mark 0 (whole cell (inl refl))))
        (λ e. ap (λ q. get_or new q 0) (sym e) ∙ other)
        o

    elsewhere : (p : ℕ) → (Own text lines p → ⊥) → get_or new p 0 ≡ get_or cells p 0
    elsewhere p d =
        get_or-set_other first (mirror_below text lines) p (mark_below text lines) 0 (λ e. d (inr (sym e)))
        ∙ get_or-set_other cells (cell_below text lines) p (mark_below text lines) 0 (λ e. d (inl (sym e)))

    from-lines :
        (p : ℕ) → is_entry text lines ≡ true → is_given new p ≡ true → (k : ℕ) × (k < suc lines) × (is_entry text k ≡ true) × Own text k p
    unfolding is_given
    from-lines p filled g =
        let cell = cell_below text lines in
        let mirror = mirror_below text lines in
        by_test
        (eqb p cell)
        (λ z. (lines, omega arith, filled, inl (sym (eqb-true p cell z))))
        (λ z. by_test
        (eqb p mirror)
        (λ y. (lines, omega arith, filled, inr (sym (eqb-true p mirror y))))
        (λ y. let same = elsewhere p (λ o. ⊎_elim (λ e. eqb-false p cell z (sym e)) (λ e. eqb-false p mirror y (sym e)) o) in
        let w = read.from_line p (ap (λ b. not (eqb b 0)) (sym same) ∙ g) in
        (w.0, omega (arith, w.1), w.2, w.3)))

    pub entry_more : is_entry text lines ≡ true → Noted text (suc lines) (opened (header_of text) (entry_below text lines) cells)
    unfolding opened
    entry_more filled =
        record {
          in_form =
              λ k l e. ⊎_elim
              (λ z. rw z form)
              (λ b. read.in_form k b e)
              (eq-or-lt_of_le (le_of_suc-le-suc l));
          marked =
              λ k p l e. ⊎_elim
              (λ z. rw z (here p))
              (λ b o. elsewhere p (λ q. clash (line_given k p b e o) (own_free p q)) ∙ read.marked k p b e o)
              (eq-or-lt_of_le (le_of_suc-le-suc l));
          from_line = λ p g. from-lines p filled g;
          once =
              λ j k a l e f q. ⊎_elim
              (λ z. apart j (omega arith) e (q ∙ ap (cell_below text) z))
              (λ b. read.once j k a b e f q)
              (eq-or-lt_of_le (le_of_suc-le-suc l));
        }

-- an entry that is accepted has its form
has_form : (h : Header) (e : Result Numbers Numbers) (place : ℕ) (cells : List ℕ) → entry_check h e place cells ≡ accepted → e ≡ Ok (numbers_in e)
unfolding entry_check
has_form h (Ok e) place cells fine = refl
has_form h (Err e) place cells fine = never (cc)

-- what the checks 3, 5, 16, 8, 6 of an entry tell
module _
    (text : List ℕ) (k place : ℕ) (cells : List ℕ)
    (fine : entry_check (header_of text) (entry_at text (header_of text) (line_below text k)) place cells ≡ accepted) where
  abbrev h : Header
  h = header_of text

  abbrev e : Numbers
  e = entry_below text k

  pub check_entry : entry_at text h (line_below text k) ≡ Ok e
  unfolding entry_below
  check_entry = has_form h (entry_at text h (line_below text k)) place cells fine

  checked : entry_check h (Ok e) place cells ≡ accepted
  checked = sym (ap (λ x. entry_check h x place cells) check_entry) ∙ fine

  pub check_form : InForm text k
  unfolding entry_check above_diagonal
  check_form =
      let three = then-first _ _ checked in
      let two = then-first _ _ three in
      let off = refuse-not _ OffMatrix place (then-first _ _ two) in
      let row = in_range h.m e.first (or_fails_left (outside h.m e.first) (outside h.n e.second) off) in
      let column = in_range h.n e.second (or_fails_right (outside h.m e.first) (outside h.n e.second) off) in
      let above = refuse-not _ AboveDiagonal place (then-second _ _ two) in
      let part = in_range 2 e.third (refuse-not _ BadPart place (then-second _ _ three)) in
      record {
        form = check_entry;
        row_from = row.0;
        row_to = row.1;
        column_from = column.0;
        column_to = column.1;
        below = λ s. ltb-false e.first e.second (and-other h.symmetric (ltb e.first e.second) above s);
        part_from = part.0;
        part_to = part.1;
      }

  pub check_free : is_given cells (cell_below text k) ≡ false
  unfolding entry_check
  check_free = refuse-not _ Repeated place (then-second _ _ checked)
