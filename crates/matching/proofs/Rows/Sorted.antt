-- Where the rows of the nonzeros rise, the nonzeros of row i are those from its start up to the start of the next row.
-- Assumes nothing.
use mathlib.Core.Path.{◌≡◌, sym, ◌∙◌, ap}
use mathlib.Core.Logic.{⊎_elim}
use Prim.Native.Nat.{ℕ, zero, suc, ◌+◌, ◌≤◌, ◌<◌}
use native.Mathlib.Nat.{eq-or-lt_of_le, le_of_suc-le-suc}
use native.Mathlib.Omega.{arith}
use lib.Dec.{ltb}
use borrow.Author.Tests.{ltb-true, ltb-false, lt-ltb, le-ltb}
use Rattle.counting.specs.Sums.{sum, count}
use Rattle.counting.proofs.Joined.{no_way, by_test, bit-false}
use Rattle.counting.proofs.Counted.{count_mono, count_all}
use Rattle.model.specs.Pattern.{Pattern}
use Rattle.matching.specs.Starts.{row_start}
use Rattle.matching.proofs.Rows.Counts.{start_most}

-- each nonzero lies between the start of its row and that of the next
pub record Sorted (P : Pattern) : Type 0 where
  pub after : (t : ℕ) → t < P.size → row_start P (P.row t) ≤ t
  pub before : (t : ℕ) → t < P.size → t < row_start P (P.row t + 1)

-- the numbers below k are k
count_below : (k n : ℕ) → k ≤ n → count (λ s. ltb s k) n ≡ k
unfolding sum
count_below k zero h = omega arith
count_below k (suc n) h =
    ⊎_elim
    (λ e. count_all (λ s. ltb s k) (suc n) (λ s b. lt-ltb s k (omega arith)) ∙ sym e)
    (λ l. omega (
      arith,
      count_below k n (le_of_suc-le-suc l),
      bit-false (ltb n k) (le-ltb n k (le_of_suc-le-suc l)),
    ))
    (eq-or-lt_of_le h)

-- the rows of the nonzeros rise
abbrev pub Rising : Pattern → Type 0
Rising P = (t : ℕ) → suc t < P.size → P.row t ≤ P.row (suc t)

-- over any number of steps
rising_far :
    (P : Pattern) → Rising P → (s t : ℕ) → s ≤ t → t < P.size → P.row s ≤ P.row t
rising_far P rising s zero h b =
    let e : s ≡ 0 = omega arith in
    omega (arith, ap P.row e)
rising_far P rising s (suc t) h b =
    ⊎_elim
    (λ e. omega (arith, ap P.row e))
    (λ l. omega (arith, rising_far P rising s t (le_of_suc-le-suc l) (omega arith), rising t b))
    (eq-or-lt_of_le h)

-- where they rise, the pattern is sorted
pub sorted_rising : (P : Pattern) → Rising P → Sorted P
unfolding row_start
sorted_rising P rising = record { after = after'; before = before' }
  where
    after' : (t : ℕ) → t < P.size → count (λ s. ltb (P.row s) (P.row t)) P.size ≤ t
    after' t b =
        omega (
          arith,
          count_mono
              (λ s. ltb (P.row s) (P.row t))
              (λ s. ltb s t)
              P.size
              (λ s c e. by_test
              (ltb s t)
              (λ l. l)
              (λ l. no_way (omega (
                arith,
                ltb-true (P.row s) (P.row t) e,
                rising_far P rising t s (ltb-false s t l) c,
              )))),
          count_below t P.size (omega arith),
        )

    before' : (t : ℕ) → t < P.size → t < count (λ s. ltb (P.row s) (P.row t + 1)) P.size
    before' t b =
        omega (
          arith,
          count_mono
              (λ s. ltb s (t + 1))
              (λ s. ltb (P.row s) (P.row t + 1))
              P.size
              (λ s c e. let l = ltb-true s (t + 1) e in
              lt-ltb (P.row s) (P.row t + 1) (omega (arith, rising_far P rising s t (omega arith) b))),
          count_below (t + 1) P.size (omega arith),
        )

-- starts rise with the rows
pub start_mono : (P : Pattern) (i k : ℕ) → i ≤ k → row_start P i ≤ row_start P k
unfolding row_start
start_mono P i k h =
    count_mono
    (λ t. ltb (P.row t) i)
    (λ t. ltb (P.row t) k)
    P.size
    (λ t b e. lt-ltb (P.row t) k (omega (arith, ltb-true (P.row t) i e)))

-- a nonzero between the start of row i and that of the next is one
pub between_below : (P : Pattern) (i t : ℕ) → t < row_start P (i + 1) → t < P.size
between_below P i t h = omega (arith, start_most P (i + 1))

-- and lies in row i
pub between-row :
    (P : Pattern) (i t : ℕ) → Sorted P → row_start P i ≤ t → t < row_start P (i + 1) → P.row t ≡ i
between-row P i t sorted h k =
    let b = between_below P i t k in
    by_test
    (ltb (P.row t) i)
    (λ e. no_way (omega (
      arith,
      ltb-true (P.row t) i e,
      start_mono P (P.row t + 1) i (omega (arith, ltb-true (P.row t) i e)),
      sorted.before t b,
    )))
    (λ e. ⊎_elim
    (λ q. sym q)
    (λ l. no_way (omega (arith, start_mono P (i + 1) (P.row t) (omega arith), sorted.after t b)))
    (eq-or-lt_of_le (ltb-false (P.row t) i e)))
