-- Matchings of the conflicts, held as the mate of each column: 0 if the column is free, else its row + 1.
-- Assumes nothing.
use mathlib.Core.Bool.{Bool, true}
use mathlib.Core.Path.{◌≡◌, refl}
use Prim.Native.Nat.{ℕ, suc, pred, ◌<◌}
use native.Mathlib.Omega.{arith}
use lib.Dec.{eqb, ltb}
use borrow.Author.Tests.{eqb-true, eq-eqb, ltb-true, lt-ltb}
use Rattle.counting.specs.Tests.{◌and◌, ◌or◌}
use Rattle.counting.specs.Sums.{count, any}
use Rattle.counting.proofs.Joined.{no_way, and_intro, and_left, and_right}
use Rattle.counting.proofs.Counted.{any_intro, any_elim}
use Rattle.model.specs.Pattern.{Pattern, Inside}
use Rattle.model.specs.Marking.{Marking}
use Rattle.model.specs.Bound.{conflict}

-- nonzero t is a conflict of row i and column j
unfoldable pub meeting : Pattern → Marking → ℕ → ℕ → ℕ → Bool
meeting P μ i j t = conflict P μ t and (eqb (P.row t) i and eqb (P.column t) j)

-- row i and column j have a conflict in common
unfoldable pub joined : Pattern → Marking → ℕ → ℕ → Bool
joined P μ i j = any (meeting P μ i j) P.size

-- a matching of the conflicts: each matched column has a conflict with its row, and no two columns have the same row
pub record Matching (P : Pattern) (μ : Marking) (mate : ℕ → ℕ) : Type 0 where
  pub meets : (i j : ℕ) → j < P.n → mate j ≡ suc i → joined P μ i j ≡ true
  pub apart :
      (i j j' : ℕ) → j < P.n → j' < P.n → mate j ≡ suc i → mate j' ≡ suc i → j ≡ j'

-- its size: the matched columns
unfoldable pub matched : Pattern → (ℕ → ℕ) → ℕ
matched P mate = count (λ j. ltb 0 (mate j)) P.n

-- rows and columns that cover the conflicts of the first i rows
pub record Covers (P : Pattern) (μ : Marking) (i : ℕ) (rows columns : ℕ → Bool) : Type 0 where
  pub covers : (r j : ℕ) → r < i → joined P μ r j ≡ true → rows r or columns j ≡ true

-- the nonzero of a meeting is a conflict
pub meeting-conflict :
    (P : Pattern) (μ : Marking) (i j t : ℕ) → meeting P μ i j t ≡ true → conflict P μ t ≡ true
unfolding meeting
meeting-conflict P μ i j t e = and_left _ _ e

-- its row
pub meeting-row : (P : Pattern) (μ : Marking) (i j t : ℕ) → meeting P μ i j t ≡ true → P.row t ≡ i
unfolding meeting
meeting-row P μ i j t e = eqb-true (P.row t) i (and_left _ _ (and_right (conflict P μ t) _ e))

-- its column
pub meeting_column : (P : Pattern) (μ : Marking) (i j t : ℕ) → meeting P μ i j t ≡ true → P.column t ≡ j
unfolding meeting
meeting_column P μ i j t e =
    eqb-true (P.column t) j (and_right (eqb (P.row t) i) _ (and_right (conflict P μ t) _ e))

-- a conflict joins its row and its column
pub joined_by :
    (P : Pattern) (μ : Marking) (t : ℕ) →
    t < P.size → conflict P μ t ≡ true → joined P μ (P.row t) (P.column t) ≡ true
unfolding joined meeting
joined_by P μ t b e =
    any_intro
    (meeting P μ (P.row t) (P.column t))
    P.size
    t
    b
    (and_intro e (and_intro (eq-eqb (P.row t) (P.row t) refl) (eq-eqb (P.column t) (P.column t) refl)))

-- a row and a column that are joined have a meeting
pub joined_test : (P : Pattern) (μ : Marking) (i j : ℕ) → joined P μ i j ≡ true → any (meeting P μ i j) P.size ≡ true
unfolding joined
joined_test P μ i j e = e

-- the conflict of a row and a column that are joined
pub joined-meeting :
    (P : Pattern) (μ : Marking) (i j : ℕ) →
    joined P μ i j ≡ true → (t : ℕ) × (t < P.size) × (meeting P μ i j t ≡ true)
unfolding joined
joined-meeting P μ i j e = any_elim (meeting P μ i j) P.size e

-- a column that is joined to a row lies in the matrix
pub joined-column_in : (P : Pattern) (μ : Marking) (i j : ℕ) → Inside P → joined P μ i j ≡ true → j < P.n
joined-column_in P μ i j inside e =
    let w = joined-meeting P μ i j e in
    omega (arith, inside.column-in w.0 w.1, meeting_column P μ i j w.0 w.2)

-- the row of a matched column
pub mate_row : (x : ℕ) → ltb 0 x ≡ true → x ≡ suc (pred x)
mate_row x e = omega (arith, ltb-true 0 x e)

-- a column with a row is matched
pub mate_matched : (x r : ℕ) → x ≡ suc r → ltb 0 x ≡ true
mate_matched x r e = lt-ltb 0 x (omega arith)

-- where no column is matched, that is a matching
pub no_mates_lem : (P : Pattern) (μ : Marking) → Matching P μ (λ j. 0)
no_mates_lem P μ =
    record {
      meets = λ i j b e. no_way (omega arith);
      apart = λ i j j' b c e f. no_way (omega arith);
    }
