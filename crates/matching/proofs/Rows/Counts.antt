-- The numbers of nonzeros row by row, and their running sums, which are the starts of the rows.
-- Assumes nothing.
use mathlib.Core.List.{List}
use mathlib.Core.Path.{◌≡◌, refl, sym, ◌∙◌, ap}
use mathlib.Core.Logic.{⊎_elim}
use Prim.Native.Nat.{ℕ, ◌+◌, ◌≤◌, ◌<◌}
use native.Mathlib.Nat.{eq-or-lt_of_le}
use native.Mathlib.Numerals.{add-one}
use native.Mathlib.Omega.{arith}
use lib.Dec.{eqb, ltb}
use lib.ListN.{length, get_or, set, length-replicate, get_or-replicate}
use lib.Seq.{get_or-set_same, get_or-set_other}
use borrow.Author.Tests.{eqb-true, eqb-false, eq-eqb, ne_eqb, ltb-true, ltb-false, lt-ltb, le-ltb}
use Rattle.counting.specs.Tests.{bit}
use Rattle.counting.specs.Sums.{sum}
use Rattle.counting.proofs.Joined.{no_way, by_test, bit-true, bit-false}
use Rattle.counting.proofs.Summed.{sum-suc, sum-none, sum_eq, sum_add}
use Rattle.counting.proofs.Counted.{count_most, count_none}
use Rattle.model.specs.Pattern.{Pattern, pattern_of, row_in}
use Rattle.matching.specs.Starts.{side_room, side_ends, row_start, row_count, no_starts}

-- a number for each row, and one more
pub no_starts_long : length no_starts ≡ side_ends
unfolding no_starts
no_starts_long = length-replicate {A = ℕ} side_ends 0

-- with no nonzeros counted, each number is 0
pub counts_none :
    (list counts : List ℕ) → counts ≡ no_starts → (i : ℕ) → i ≤ side_room → get_or counts i 0 ≡ row_count list 0 i
unfolding no_starts row_count
counts_none list counts e i h =
    ap (λ (l : List ℕ). get_or l i 0) e
    ∙ get_or-replicate {A = ℕ} side_ends i 0 0 (omega arith)
    ∙ sym (sum-none (λ t. bit (eqb (row_in list t + 1) i)))

-- one more nonzero counted
count-more :
    (list : List ℕ) (t i : ℕ) → row_count list (t + 1) i ≡ row_count list t i + bit (eqb (row_in list t + 1) i)
unfolding row_count
count-more list t i =
    ap (sum (λ s. bit (eqb (row_in list s + 1) i))) (add-one t) ∙ sum-suc (λ s. bit (eqb (row_in list s + 1) i)) t

-- no more are counted than there are
pub counts_most : (list : List ℕ) (t i : ℕ) → row_count list t i ≤ t
unfolding row_count
counts_most list t i = count_most (λ s. eqb (row_in list s + 1) i) t

-- nonzero t, whose row has its number at this place
module _
    (list counts : List ℕ)
    (t at : ℕ)
    (place : at ≡ row_in list t + 1)
    (h : (i : ℕ) → i ≤ side_room → get_or counts i 0 ≡ row_count list t i)
  where
    -- another row's number stays
    count-other : (i : ℕ) → i ≤ side_room → (i ≡ at → ⊥) → get_or counts i 0 ≡ row_count list (t + 1) i
    count-other i c d =
        omega (
          arith,
          h i c,
          count-more list t i,
          bit-false
              (eqb (row_in list t + 1) i)
              (ne_eqb (row_in list t + 1) i (λ q. let w : i ≡ at = omega arith in d w)),
        )

    -- its own is one more
    pub counts_more :
        length counts ≡ side_ends → at < side_ends →
        (i : ℕ) → i ≤ side_room → get_or (set counts at (get_or counts at 0 + 1)) i 0 ≡ row_count list (t + 1) i
    counts_more l b i c =
        by_test
        (eqb i at)
        (λ s. let q = eqb-true i at s in
        let w : row_in list t + 1 ≡ i = omega arith in
        ap (λ (k : ℕ). get_or (set counts at (get_or counts at 0 + 1)) k 0) q
        ∙ get_or-set_same counts at (get_or counts at 0 + 1) 0 (omega arith)
        ∙ omega (
          arith,
          ap (λ (k : ℕ). get_or counts k 0) q,
          h i c,
          count-more list t i,
          bit-true (eqb (row_in list t + 1) i) (eq-eqb (row_in list t + 1) i w),
        ))
        (λ s. let d = eqb-false i at s in
        get_or-set_other counts at i (get_or counts at 0 + 1) 0 d ∙ count-other i c d)

    -- a row past the last has none
    pub counts_passed : side_ends ≤ at → (i : ℕ) → i ≤ side_room → get_or counts i 0 ≡ row_count list (t + 1) i
    counts_passed b i c = count-other i c (λ q. no_way (omega arith))

-- the starts of a list's rows, whatever the numbers of rows and columns
pub start_same :
    (m n nonzeros : ℕ) (list : List ℕ) (i : ℕ) →
    row_start (pattern_of 0 0 nonzeros list) i ≡ row_start (pattern_of m n nonzeros list) i
unfolding row_start pattern_of
start_same m n nonzeros list i = refl

-- no more nonzeros come before a row than there are
pub start_most : (P : Pattern) (i : ℕ) → row_start P i ≤ P.size
unfolding row_start
start_most P i = count_most (λ t. ltb (P.row t) i) P.size

-- a number is below i + 1 if it is below i or is i
below_more : (a i : ℕ) → bit (ltb a (i + 1)) ≡ bit (ltb a i) + bit (eqb (a + 1) (i + 1))
below_more a i =
    by_test
    (ltb a i)
    (λ e. let h = ltb-true a i e in
    omega (
      arith,
      bit-true (ltb a i) e,
      bit-true (ltb a (i + 1)) (lt-ltb a (i + 1) (omega arith)),
      bit-false (eqb (a + 1) (i + 1)) (ne_eqb (a + 1) (i + 1) (λ q. no_way (omega arith))),
    ))
    (λ e. let h = ltb-false a i e in
    by_test
    (eqb (a + 1) (i + 1))
    (λ f. let q = eqb-true (a + 1) (i + 1) f in
    omega (
      arith,
      bit-false (ltb a i) e,
      bit-true (ltb a (i + 1)) (lt-ltb a (i + 1) (omega arith)),
      bit-true (eqb (a + 1) (i + 1)) f,
    ))
    (λ f. let d = eqb-false (a + 1) (i + 1) f in
    ⊎_elim
    (λ q. let w : a + 1 ≡ i + 1 = omega arith in absurd (d w))
    (λ g. omega (
      arith,
      bit-false (ltb a i) e,
      bit-false (ltb a (i + 1)) (le-ltb a (i + 1) (omega arith)),
      bit-false (eqb (a + 1) (i + 1)) f,
    ))
    (eq-or-lt_of_le h)))

-- the next row starts after the nonzeros of this one
pub start-more :
    (nonzeros : ℕ) (list : List ℕ) (i : ℕ) →
    row_start (pattern_of 0 0 nonzeros list) (i + 1)
    ≡ row_start (pattern_of 0 0 nonzeros list) i + row_count list nonzeros (i + 1)
unfolding row_start pattern_of row_count
start-more nonzeros list i =
    sum_eq
    (λ t. bit (ltb (row_in list t) (i + 1)))
    (λ t. bit (ltb (row_in list t) i) + bit (eqb (row_in list t + 1) (i + 1)))
    nonzeros
    (λ t b. below_more (row_in list t) i)
    ∙ sum_add (λ t. bit (ltb (row_in list t) i)) (λ t. bit (eqb (row_in list t + 1) (i + 1))) nonzeros

-- the first row starts at 0
pub start_none :
    (nonzeros : ℕ) (list : List ℕ) → row_count list nonzeros 0 ≡ row_start (pattern_of 0 0 nonzeros list) 0
unfolding row_start pattern_of row_count
start_none nonzeros list =
    count_none (λ t. eqb (row_in list t + 1) 0) nonzeros (λ t b. ne_eqb (row_in list t + 1) 0 (λ q. no_way (omega arith)))
    ∙ sym (count_none (λ t. ltb (row_in list t) 0) nonzeros (λ t b. le-ltb (row_in list t) 0 (omega arith)))

-- and never past the number of nonzeros
pub starts_most : (nonzeros : ℕ) (list : List ℕ) (i : ℕ) → row_start (pattern_of 0 0 nonzeros list) i ≤ nonzeros
unfolding pattern_of
starts_most nonzeros list i = start_most (pattern_of 0 0 nonzeros list) i

-- before the first sum only the first row's start is there
pub starts_begin :
    (nonzeros : ℕ) (list starts : List ℕ) →
    ((k : ℕ) → k ≤ side_room → get_or starts k 0 ≡ row_count list nonzeros k) →
    (k : ℕ) → k ≤ 0 → get_or starts k 0 ≡ row_start (pattern_of 0 0 nonzeros list) k
starts_begin nonzeros list starts h k z =
    let q : k ≡ 0 = omega arith in
    h k (omega arith)
    ∙ ap (row_count list nonzeros) q
    ∙ start_none nonzeros list
    ∙ ap (row_start (pattern_of 0 0 nonzeros list)) (sym q)

-- one more running sum: the starts up to row i, and the counts after it
module _
    (nonzeros : ℕ)
    (list starts : List ℕ)
    (i : ℕ)
    (long : length starts ≡ side_ends)
    (small : i < side_room)
    (done : (k : ℕ) → k ≤ i → get_or starts k 0 ≡ row_start (pattern_of 0 0 nonzeros list) k)
    (left : (k : ℕ) → i < k → k ≤ side_room → get_or starts k 0 ≡ row_count list nonzeros k)
  where
    -- the sum is the start of the next row
    pub sum_is :
        get_or starts (i + 1) 0 + get_or starts i 0 ≡ row_start (pattern_of 0 0 nonzeros list) (i + 1)
    sum_is =
        omega (
          arith,
          done i (omega arith),
          left (i + 1) (omega arith) (omega arith),
          start-more nonzeros list i,
        )

    pub sum_done :
        (k : ℕ) → k ≤ i + 1 →
        get_or (set starts (i + 1) (get_or starts (i + 1) 0 + get_or starts i 0)) k 0
        ≡ row_start (pattern_of 0 0 nonzeros list) k
    sum_done k h =
        ⊎_elim
        (λ q. ap (λ (k : ℕ). get_or (set starts (i + 1) (get_or starts (i + 1) 0 + get_or starts i 0)) k 0) q
        ∙ get_or-set_same starts (i + 1) (get_or starts (i + 1) 0 + get_or starts i 0) 0 (omega arith)
        ∙ sum_is
        ∙ ap (row_start (pattern_of 0 0 nonzeros list)) (sym q))
        (λ l. get_or-set_other starts (i + 1) k (get_or starts (i + 1) 0 + get_or starts i 0) 0 (λ q. no_way (omega arith))
        ∙ done k (omega arith))
        (eq-or-lt_of_le h)

    pub sum_left :
        (k : ℕ) → i + 1 < k → k ≤ side_room →
        get_or (set starts (i + 1) (get_or starts (i + 1) 0 + get_or starts i 0)) k 0 ≡ row_count list nonzeros k
    sum_left k g h =
        get_or-set_other starts (i + 1) k (get_or starts (i + 1) 0 + get_or starts i 0) 0 (λ q. no_way (omega arith))
        ∙ left k (omega arith) h
