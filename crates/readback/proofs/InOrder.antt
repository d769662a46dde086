-- The list and the parts that a table of entries gives pass the checks of a list and of parts.
-- Assumes nothing.
use mathlib.Core.Bool.{true, false, not}
use mathlib.Core.List.{List}
use mathlib.Core.Path.{◌≡◌, refl, sym, ◌∙◌, ap}
use Prim.Native.Nat.{ℕ, zero, suc, ◌*◌, ◌/◌, ◌%◌, ◌≤◌, ◌<◌}
use native.Mathlib.Nat.{div-add-mod', mod-lt}
use native.Mathlib.Omega.{arith}
use lib.Dec.{ltb}
use lib.ListN.{length, get_or}
use borrow.Author.Tests.{ltb-true, ltb-false, lt-ltb, le-ltb, lt-leb, eq-eqb}
use Rattle.counting.specs.Sums.{count}
use Rattle.counting.proofs.Joined.{no_way, by_test, and_intro, or_left, or_right, or_fails}
use Rattle.model.specs.Refusal.{accepted}
use Rattle.model.specs.declared.Word.TheVariants.{OffMatrix, BadPart, ShortBuffer, Order, SplitNumber}
use Rattle.model.specs.Limits.{line_limit}
use Rattle.model.specs.Pattern.{entry_bytes, row_place, column_place, high_in, number_in, row_in, column_in}
use Rattle.model.specs.Calls.{sizes_verdict, rises, split_number, off_matrix, entry_verdict, list_verdict}
use Rattle.pattern.specs.Measures.{part_verdict, parts_verdict}
use Rattle.model.proofs.Theorems.Checks.{refuse_no, then_accepted, each_fine, rows_range}
use Rattle.texts.specs.Entries.{is_given}
use Rattle.counting.proofs.Passed.{count_rise, passed}
use Rattle.readback.proofs.Given.{GivesList, GivesParts}
use Rattle.readback.proofs.Entered.{Entered}

module _ {m n nonzeros : ℕ} {cells : List ℕ} (e : Entered m n cells nonzeros) where
  -- the cell of nonzero t
  pub cell_of_lem : (t : ℕ) → t < nonzeros → (p : ℕ) × (p < line_limit * m) × (is_given cells p ≡ true) × (count (is_given cells) p ≡ t)
  cell_of_lem t l = passed (is_given cells) (line_limit * m) t (omega (arith, e.total))

  -- of two nonzeros the later has the later cell
  cells_rise : (t : ℕ) (l : suc t < nonzeros) → (cell_of_lem t (omega arith)).0 < (cell_of_lem (suc t) l).0
  cells_rise t l =
      let a = cell_of_lem t (omega arith) in
      let b = cell_of_lem (suc t) l in
      by_test
      (ltb a.0 b.0)
      (λ z. ltb-true a.0 b.0 z)
      (λ z. no_way (omega (arith, count_rise (is_given cells) b.0 a.0 (ltb-false a.0 b.0 z), a.3, b.3)))

  module _ {list : List ℕ} (g : GivesList cells (line_limit * m) list) where
    pub row_is : (t : ℕ) (l : t < nonzeros) → row_in list t ≡ (cell_of_lem t l).0 / line_limit
    row_is t l =
        let a = cell_of_lem t l in
        ap (row_in list) (sym a.3) ∙ g.row a.0 a.1 a.2

    pub column_is : (t : ℕ) (l : t < nonzeros) → column_in list t ≡ (cell_of_lem t l).0 % line_limit
    column_is t l =
        let a = cell_of_lem t l in
        ap (column_in list) (sym a.3) ∙ g.column a.0 a.1 a.2

    -- a number below the limit has a high byte of 1 at most
    not-split : m ≤ line_limit → (t : ℕ) → t < nonzeros → split_number list t ≡ false
    unfolding split_number row_in column_in number_in
    not-split rows t l =
        let p = (cell_of_lem t l).0 in
        let inside = (e.inside p (cell_of_lem t l).2).row in
        let small = mod-lt p {m = line_limit} (omega arith) in
        or_fails
        (le-ltb 1 (high_in list (row_place t)) (omega (arith, row_is t l)))
        (le-ltb 1 (high_in list (column_place t)) (omega (arith, column_is t l)))

    inside : (t : ℕ) → t < nonzeros → off_matrix m n list t ≡ false
    unfolding off_matrix
    inside t l =
        let a = cell_of_lem t l in
        or_fails
        (lt-leb m (row_in list t) (omega (arith, row_is t l, (e.inside a.0 a.2).row)))
        (lt-leb n (column_in list t) (omega (arith, column_is t l, (e.inside a.0 a.2).column)))

    in_order : (t : ℕ) → t < nonzeros → rises list t ≡ true
    unfolding rises
    in_order zero l = refl
    in_order (suc t) l =
        let before : t < nonzeros = omega arith in
        let a = (cell_of_lem t before).0 in
        let b = (cell_of_lem (suc t) l).0 in
        let rise : a < b = cells_rise t l in
        let row-a = row_is t before in
        let row-b = row_is (suc t) l in
        let column-a = column_is t before in
        let column-b = column_is (suc t) l in
        let whole-a = div-add-mod' a line_limit in
        let whole-b = div-add-mod' b line_limit in
        let small = mod-lt b {m = line_limit} (omega arith) in
        by_test
        (ltb (row_in list t) (row_in list (suc t)))
        (λ z. or_left _ z)
        (λ z. let low = ltb-false (row_in list t) (row_in list (suc t)) z in
        let same : row_in list t ≡ row_in list (suc t) = omega arith in
        or_right
        (ltb (row_in list t) (row_in list (suc t)))
        (and_intro
        (eq-eqb (row_in list t) (row_in list (suc t)) same)
        (lt-ltb (column_in list t) (column_in list (suc t)) (omega arith))))

    pub entry_accepted : m ≤ line_limit → (t : ℕ) → t < nonzeros → entry_verdict m n list t ≡ accepted
    unfolding entry_verdict
    entry_accepted rows t l =
        then_accepted _ (then_accepted _ (refuse_no SplitNumber t (not-split rows t l)) ∙ refuse_no OffMatrix t (inside t l))
        ∙ refuse_no Order t (ap not (in_order t l))

    pub list_fine : sizes_verdict m n nonzeros ≡ accepted → entry_bytes * nonzeros ≤ length list → list_verdict m n nonzeros list ≡ accepted
    unfolding list_verdict
    list_fine sizes room =
        then_accepted _ (then_accepted _ sizes ∙ refuse_no ShortBuffer 0 (le-ltb (length list) (entry_bytes * nonzeros) room))
        ∙ each_fine (entry_verdict m n list) nonzeros (entry_accepted (rows_range m n nonzeros sizes).1)

  module _ {parts : List ℕ} (g : GivesParts cells (line_limit * m) parts) where
    pub part_accepted : (t : ℕ) → t < nonzeros → part_verdict parts t ≡ accepted
    unfolding part_verdict
    part_accepted t l =
        let a = cell_of_lem t l in
        refuse_no
        BadPart
        t
        (le-ltb 1 (get_or parts t 0) (omega (arith, ap (λ k. get_or parts k 0) a.3, g.part a.0 a.1 a.2, e.mark-in a.0)))

    pub parts_fine : nonzeros ≤ length parts → parts_verdict nonzeros parts ≡ accepted
    unfolding parts_verdict
    parts_fine room =
        then_accepted _ (refuse_no ShortBuffer 0 (le-ltb (length parts) nonzeros room)) ∙ each_fine (part_verdict parts) nonzeros part_accepted
