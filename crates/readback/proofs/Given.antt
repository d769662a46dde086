-- List and parts of a table of cells: the bytes of the nonzeros that it gives, and past them the bytes that were there.
-- Assumes nothing.
use mathlib.Core.Bool.{true, false}
use mathlib.Core.List.{List}
use mathlib.Core.Path.{◌≡◌, refl, sym, ◌∙◌, ap}
use mathlib.Core.Logic.{⊎_elim}
use Prim.Native.Nat.{ℕ, zero, suc, ◌+◌, ◌-◌, ◌*◌, ◌/◌, ◌%◌, ◌≤◌, ◌<◌}
use native.Mathlib.Nat.{eq-or-lt_of_le, le_of_suc-le-suc, mod-lt}
use native.Mathlib.Omega.{arith}
use lib.Dec.{ltb}
use lib.ListN.{length, get_or, set, length-set}
use lib.Seq.{get_or-set_same, get_or-set_other}
use borrow.Author.Tests.{ltb-true, ltb-false}
use Rattle.counting.specs.Tests.{bit}
use Rattle.counting.specs.Sums.{count}
use Rattle.counting.proofs.Joined.{no_way, by_test, clash, pick_true, pick-false}
use Rattle.counting.proofs.Summed.{sum-none}
use Rattle.counting.proofs.Passed.{count_passed, count_failed, count-later, passed}
use Rattle.model.specs.Limits.{line_limit}
use Rattle.model.specs.Pattern.{entry_bytes, row_in, column_in, with_entry}
use Rattle.pattern.proofs.Numbers.{entry_length, entry_rest, row-set, row_other, column_set, column_other, entry_small, same_entries}
use Rattle.texts.specs.Entries.{cell_room, is_given}
use Rattle.texts.specs.Reading.{list_cell, part_cell, listed, parted}
use Rattle.readback.specs.Reads.{Bytes}

-- the first `top` cells give the nonzeros of a list, in its order
pub record GivesList (cells : List ℕ) (top : ℕ) (list : List ℕ) : Type 0 where
  pub row : (p : ℕ) → p < top → is_given cells p ≡ true → row_in list (count (is_given cells) p) ≡ p / line_limit
  pub column : (p : ℕ) → p < top → is_given cells p ≡ true → column_in list (count (is_given cells) p) ≡ p % line_limit

-- they give the parts of the same nonzeros
pub record GivesParts (cells : List ℕ) (top : ℕ) (parts : List ℕ) : Type 0 where
  pub part : (p : ℕ) → p < top → is_given cells p ≡ true → get_or parts (count (is_given cells) p) 0 ≡ get_or cells p 0 - 1

module _ (cells old : List ℕ) where
  abbrev before : ℕ → ℕ
  before p = count (is_given cells) p

  -- one cell more
  list-given :
      (p : ℕ) → is_given cells p ≡ true →
      listed cells (suc p) old ≡ with_entry (before p) (p / line_limit) (p % line_limit) (listed cells p old)
  unfolding listed list_cell
  list-given p e = pick_true _ (listed cells p old) e

  list_kept : (p : ℕ) → is_given cells p ≡ false → listed cells (suc p) old ≡ listed cells p old
  unfolding listed list_cell
  list_kept p e = pick-false _ (listed cells p old) e

  part_given :
      (p : ℕ) → is_given cells p ≡ true → parted cells (suc p) old ≡ set (parted cells p old) (before p) (get_or cells p 0 - 1)
  unfolding parted part_cell
  part_given p e = pick_true _ (parted cells p old) e

  part_kept : (p : ℕ) → is_given cells p ≡ false → parted cells (suc p) old ≡ parted cells p old
  unfolding parted part_cell
  part_kept p e = pick-false _ (parted cells p old) e

  -- the length stays
  pub listed-length : (p : ℕ) → length (listed cells p old) ≡ length old
  unfolding listed
  listed-length zero = refl
  listed-length (suc p) =
      by_test
      (is_given cells p)
      (λ e. ap length (list-given p e) ∙ entry_length (listed cells p old) (before p) (p / line_limit) (p % line_limit) ∙ listed-length p)
      (λ e. ap length (list_kept p e) ∙ listed-length p)

  pub parted-length : (p : ℕ) → length (parted cells p old) ≡ length old
  unfolding parted
  parted-length zero = refl
  parted-length (suc p) =
      by_test
      (is_given cells p)
      (λ e. ap length (part_given p e) ∙ simp length-set (parted-length p))
      (λ e. ap length (part_kept p e) ∙ parted-length p)

  -- the bytes past the nonzeros stay
  pub listed-rest : (p i : ℕ) → entry_bytes * before p ≤ i → get_or (listed cells p old) i 0 ≡ get_or old i 0
  unfolding listed
  listed-rest zero i l = refl
  listed-rest (suc p) i l =
      by_test
      (is_given cells p)
      (λ e. let c = count_passed (is_given cells) p e in
      ap (λ x. get_or x i 0) (list-given p e)
      ∙ entry_rest (listed cells p old) (before p) (p / line_limit) (p % line_limit) i (λ k b q. omega arith)
      ∙ listed-rest p i (omega arith))
      (λ e. ap (λ x. get_or x i 0) (list_kept p e) ∙ listed-rest p i (omega (arith, count_failed (is_given cells) p e)))

  pub parted-rest : (p i : ℕ) → before p ≤ i → get_or (parted cells p old) i 0 ≡ get_or old i 0
  unfolding parted
  parted-rest zero i l = refl
  parted-rest (suc p) i l =
      by_test
      (is_given cells p)
      (λ e. let c = count_passed (is_given cells) p e in
      ap (λ x. get_or x i 0) (part_given p e)
      ∙ get_or-set_other (parted cells p old) (before p) i (get_or cells p 0 - 1) 0 (λ q. omega arith)
      ∙ parted-rest p i (omega arith))
      (λ e. ap (λ x. get_or x i 0) (part_kept p e) ∙ parted-rest p i (omega (arith, count_failed (is_given cells) p e)))

  -- the nonzeros are those that the cells give
  pub gives_listed : (p : ℕ) → entry_bytes * before p ≤ length old → GivesList cells p (listed cells p old)
  gives_listed zero r = record { row = λ q l e. no_way (omega arith); column = λ q l e. no_way (omega arith) }
  gives_listed (suc p) r =
      by_test
      (is_given cells p)
      (λ e. let c = count_passed (is_given cells) p e in
      let last = listed cells p old in
      let room : entry_bytes * before p + entry_bytes ≤ length last = omega (arith, listed-length p) in
      let g = gives_listed p (omega arith) in
      rw
      (list-given p e)
      (record {
        row =
            λ q l d. ⊎_elim
            (λ z. rw z (row-set last (before p) (p / line_limit) (p % line_limit) room))
            (λ k. let b = count-later (is_given cells) q p d k in
            row_other last (before p) (p / line_limit) (p % line_limit) (before q) (λ y. omega arith) ∙ g.row q k d)
            (eq-or-lt_of_le (le_of_suc-le-suc l));
        column =
            λ q l d. ⊎_elim
            (λ z. rw z (column_set last (before p) (p / line_limit) (p % line_limit) room))
            (λ k. let b = count-later (is_given cells) q p d k in
            column_other last (before p) (p / line_limit) (p % line_limit) (before q) (λ y. omega arith) ∙ g.column q k d)
            (eq-or-lt_of_le (le_of_suc-le-suc l));
      }))
      (λ e. let g = gives_listed p (omega (arith, count_failed (is_given cells) p e)) in
      rw
      (list_kept p e)
      (record {
        row =
            λ q l d. ⊎_elim
            (λ z. clash d (ap (is_given cells) z ∙ e))
            (λ k. g.row q k d)
            (eq-or-lt_of_le (le_of_suc-le-suc l));
        column =
            λ q l d. ⊎_elim
            (λ z. clash d (ap (is_given cells) z ∙ e))
            (λ k. g.column q k d)
            (eq-or-lt_of_le (le_of_suc-le-suc l));
      }))

  -- and their numbers are bytes
  pub listed-bytes :
      (p : ℕ) → p ≤ cell_room → entry_bytes * before p ≤ length old → Bytes (listed cells p old) (entry_bytes * before p)
  listed-bytes zero few r = record { byte = λ i l. no_way (omega (arith, sum-none (λ q. bit (is_given cells q)))) }
  listed-bytes (suc p) few r =
      by_test
      (is_given cells p)
      (λ e. let c = count_passed (is_given cells) p e in
      let last = listed cells p old in
      let size = listed-length p in
      let column_small = mod-lt p {m = line_limit} (omega arith) in
      let g = listed-bytes p (omega arith) (omega arith) in
      rw
      (list-given p e)
      (record {
        byte =
            λ i l. by_test
            (ltb i (entry_bytes * before p))
            (λ z. let b = ltb-true i (entry_bytes * before p) z in
            omega
            (arith, entry_rest last (before p) (p / line_limit) (p % line_limit) i (λ k f q. omega arith), g.byte i b))
            (λ z. entry_small last (before p) (p / line_limit) (p % line_limit) (omega arith) (omega arith) (omega arith) i (ltb-false i (entry_bytes * before p) z) (omega arith));
      }))
      (λ e. let c = count_failed (is_given cells) p e in
      let g = listed-bytes p (omega arith) (omega arith) in
      rw (list_kept p e) (record { byte = λ i l. g.byte i (omega arith) }))

  pub gives_parted : (p : ℕ) → before p ≤ length old → GivesParts cells p (parted cells p old)
  gives_parted zero r = record { part = λ q l e. no_way (omega arith) }
  gives_parted (suc p) r =
      by_test
      (is_given cells p)
      (λ e. let c = count_passed (is_given cells) p e in
      let last = parted cells p old in
      let size = parted-length p in
      let g = gives_parted p (omega arith) in
      rw
      (part_given p e)
      (record {
        part =
            λ q l d. ⊎_elim
            (λ z. rw z (get_or-set_same last (before p) (get_or cells p 0 - 1) 0 (omega arith)))
            (λ k. let b = count-later (is_given cells) q p d k in
            get_or-set_other last (before p) (before q) (get_or cells p 0 - 1) 0 (λ y. omega arith) ∙ g.part q k d)
            (eq-or-lt_of_le (le_of_suc-le-suc l));
      }))
      (λ e. let g = gives_parted p (omega (arith, count_failed (is_given cells) p e)) in
      rw
      (part_kept p e)
      (record {
        part =
            λ q l d. ⊎_elim
            (λ z. clash d (ap (is_given cells) z ∙ e))
            (λ k. g.part q k d)
            (eq-or-lt_of_le (le_of_suc-le-suc l));
      }))

-- two lists of bytes that the same cells give have the same bytes, and so have two lists of parts
module _ (cells : List ℕ) (top : ℕ) where
  pub same_list :
      (a b : List ℕ) → GivesList cells top a → GivesList cells top b →
      Bytes a (entry_bytes * count (is_given cells) top) → Bytes b (entry_bytes * count (is_given cells) top) →
      (i : ℕ) → i < entry_bytes * count (is_given cells) top → get_or a i 0 ≡ get_or b i 0
  same_list a b g h a-bytes b-bytes =
      same_entries
      a
      b
      (count (is_given cells) top)
      a-bytes.byte
      b-bytes.byte
      (λ t l. let w = passed (is_given cells) top t l in
      let p = w.0 in
      rw
      (sym w.3)
      (g.row p w.1 w.2 ∙ sym (h.row p w.1 w.2), g.column p w.1 w.2 ∙ sym (h.column p w.1 w.2)))

  pub same_parts :
      (a b : List ℕ) → GivesParts cells top a → GivesParts cells top b → (i : ℕ) → i < count (is_given cells) top → get_or a i 0 ≡ get_or b i 0
  same_parts a b g h i l =
      let w = passed (is_given cells) top i l in
      rw (sym w.3) (g.part w.0 w.1 w.2 ∙ sym (h.part w.0 w.1 w.2))
