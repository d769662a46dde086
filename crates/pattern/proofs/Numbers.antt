-- Numbers of two bytes in a list: one that is set is there and every other byte stays; lists of bytes with the same numbers have the same bytes.
-- Assumes nothing.
use mathlib.Core.List.{List}
use mathlib.Core.Path.{◌≡◌, ◌∙◌, ap}
use Prim.Native.Nat.{ℕ, ◌+◌, ◌*◌, ◌/◌, ◌%◌, ◌≤◌, ◌<◌}
use native.Mathlib.Nat.{div-add-mod', mod-lt}
use native.Mathlib.Omega.{arith}
use lib.Dec.{eqb, ltb}
use lib.ListN.{length, get_or, set, length-set}
use lib.Seq.{get_or-set_same, get_or-set_other}
use borrow.Author.Tests.{eqb-true, eqb-false, ltb-true, ltb-false}
use Rattle.counting.proofs.Joined.{by_test, no_way}
use Rattle.model.specs.Pattern.{number_bytes, entry_bytes, row_place, column_place, low_in, high_in, number_in, row_in, column_in, with_number, with_entry}

-- a number that is set
module _ (list : List ℕ) (at x : ℕ) where
  abbrev with_low : List ℕ
  with_low = set list at (x % 256)

  pub number-length : length (with_number at x list) ≡ length list
  unfolding with_number
  number-length = length-set with_low (at + 1) (x / 256) ∙ length-set list at (x % 256)

  -- other bytes stay
  pub number-rest : (i : ℕ) → (i ≡ at → ⊥) → (i ≡ at + 1 → ⊥) → get_or (with_number at x list) i 0 ≡ get_or list i 0
  unfolding with_number
  number-rest i d e =
      get_or-set_other with_low (at + 1) i (x / 256) 0 e ∙ get_or-set_other list at i (x % 256) 0 d

  module _ (room : at + 1 < length list) where
    low-set : get_or (with_number at x list) at 0 ≡ x % 256
    unfolding with_number
    low-set =
        get_or-set_other with_low (at + 1) at (x / 256) 0 (λ e. omega arith)
        ∙ get_or-set_same list at (x % 256) 0 (omega arith)

    high_set : get_or (with_number at x list) (at + 1) 0 ≡ x / 256
    unfolding with_number
    high_set = get_or-set_same with_low (at + 1) (x / 256) 0 (omega (arith, length-set list at (x % 256)))

    pub number-set : number_in (with_number at x list) at ≡ x
    unfolding number_in low_in high_in
    number-set = omega (arith, low-set, high_set, div-add-mod' x 256)

    -- its bytes are bytes
    pub number_small :
        x < 256 * 256 → (i : ℕ) → ((i ≡ at → ⊥) → (i ≡ at + 1 → ⊥) → get_or list i 0 < 256) → get_or (with_number at x list) i 0 < 256
    number_small small i rest =
        by_test
        (eqb i at)
        (λ e. omega (arith, ap (λ k. get_or (with_number at x list) k 0) (eqb-true i at e), low-set, mod-lt x {m = 256} (omega arith)))
        (λ e. by_test
        (eqb i (at + 1))
        (λ f. omega (arith, ap (λ k. get_or (with_number at x list) k 0) (eqb-true i (at + 1) f), high_set, div-add-mod' x 256))
        (λ f. let d = eqb-false i at e in
        let g = eqb-false i (at + 1) f in
        omega (arith, number-rest i d g, rest d g)))

-- a row and a column number that are set
module _ (list : List ℕ) (t row column : ℕ) where
  abbrev with_row : List ℕ
  with_row = with_number (row_place t) row list

  pub entry_length : length (with_entry t row column list) ≡ length list
  unfolding with_entry
  entry_length = number-length with_row (column_place t) column ∙ number-length list (row_place t) row

  -- the bytes of other entries stay
  pub entry_rest :
      (i : ℕ) → ((k : ℕ) → k < entry_bytes → i ≡ entry_bytes * t + k → ⊥) → get_or (with_entry t row column list) i 0 ≡ get_or list i 0
  unfolding with_entry
  entry_rest i d =
      number-rest with_row (column_place t) column i (λ e. d 2 (omega arith) e) (λ e. d 3 (omega arith) (omega arith))
      ∙ number-rest list (row_place t) row i (λ e. d 0 (omega arith) (omega arith)) (λ e. d 1 (omega arith) e)

  number-other :
      (at : ℕ) → ((k : ℕ) → k < entry_bytes → at ≡ entry_bytes * t + k → ⊥) → ((k : ℕ) → k < entry_bytes → at + 1 ≡ entry_bytes * t + k → ⊥) →
      number_in (with_entry t row column list) at ≡ number_in list at
  unfolding number_in low_in high_in
  number-other at low high = omega (arith, entry_rest at low, entry_rest (at + 1) high)

  pub row_other : (s : ℕ) → (s ≡ t → ⊥) → row_in (with_entry t row column list) s ≡ row_in list s
  unfolding row_in
  row_other s d = number-other (row_place s) (λ k l e. d (omega arith)) (λ k l e. d (omega arith))

  pub column_other : (s : ℕ) → (s ≡ t → ⊥) → column_in (with_entry t row column list) s ≡ column_in list s
  unfolding column_in
  column_other s d = number-other (column_place s) (λ k l e. d (omega arith)) (λ k l e. d (omega arith))

  module _ (room : entry_bytes * t + entry_bytes ≤ length list) where
    row_room : row_place t + 1 < length list
    row_room = omega arith

    column_room : column_place t + 1 < length with_row
    column_room = omega (arith, number-length list (row_place t) row)

    pub row-set : row_in (with_entry t row column list) t ≡ row
    unfolding row_in with_entry number_in low_in high_in
    row-set =
        omega
        (arith, number-rest with_row (column_place t) column (row_place t) (λ e. omega arith) (λ e. omega arith), number-rest with_row (column_place t) column (row_place t + 1) (λ e. omega arith) (λ e. omega arith), number-set list (row_place t) row row_room)

    pub column_set : column_in (with_entry t row column list) t ≡ column
    unfolding column_in with_entry
    column_set = number-set with_row (column_place t) column column_room

    -- its bytes are bytes
    pub entry_small :
        row < 256 * 256 → column < 256 * 256 → (i : ℕ) → entry_bytes * t ≤ i → i < entry_bytes * t + entry_bytes → get_or (with_entry t row column list) i 0 < 256
    unfolding with_entry
    entry_small r c i low high =
        number_small with_row (column_place t) column column_room c i
        (λ d e. number_small list (row_place t) row row_room r i (λ f g. no_way (omega arith)))

-- lists of bytes that hold the same numbers have the same bytes
module _ (one other : List ℕ) where
  -- a number
  same_number :
      (at : ℕ) → get_or one at 0 < 256 → get_or other at 0 < 256 → number_in one at ≡ number_in other at →
      (i : ℕ) → at ≤ i → i < at + number_bytes → get_or one i 0 ≡ get_or other i 0
  unfolding number_in low_in high_in
  same_number at a b same i low high =
      by_test
      (eqb i at)
      (λ e. rw (eqb-true i at e) (omega arith))
      (λ e. let d = eqb-false i at e in
      let next : i ≡ at + 1 = omega arith in
      rw next (omega arith))

  -- the first entries
  pub same_entries :
      (nonzeros : ℕ) → ((i : ℕ) → i < entry_bytes * nonzeros → get_or one i 0 < 256) → ((i : ℕ) → i < entry_bytes * nonzeros → get_or other i 0 < 256) →
      ((t : ℕ) → t < nonzeros → (row_in one t ≡ row_in other t) × (column_in one t ≡ column_in other t)) →
      (i : ℕ) → i < entry_bytes * nonzeros → get_or one i 0 ≡ get_or other i 0
  unfolding row_in column_in
  same_entries nonzeros a b same i l =
      let whole = div-add-mod' i entry_bytes in
      let rest = mod-lt i {m = entry_bytes} (omega arith) in
      let t = i / entry_bytes in
      let below : t < nonzeros = omega arith in
      by_test
      (ltb (i % entry_bytes) number_bytes)
      (λ e. let first = ltb-true (i % entry_bytes) number_bytes e in
      same_number (row_place t) (a (row_place t) (omega arith)) (b (row_place t) (omega arith)) (same t below).0 i (omega arith) (omega arith))
      (λ e. let second = ltb-false (i % entry_bytes) number_bytes e in
      same_number (column_place t) (a (column_place t) (omega arith)) (b (column_place t) (omega arith)) (same t below).1 i (omega arith) (omega arith))
