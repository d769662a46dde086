-- Laws of lines: the two lines of a nonzero hold it, and are lines of the matrix.
-- Assumes nothing.
use mathlib.Core.Bool.{true}
use mathlib.Core.Path.{◌≡◌, refl}
use mathlib.Core.Logic.{◌⊎◌, inl, inr, ⊎_elim}
use Prim.Native.Nat.{ℕ, ◌<◌}
use native.Mathlib.Omega.{arith}
use lib.Dec.{eqb}
use borrow.Author.Tests.{eqb-true, eq-eqb}
use Rattle.counting.proofs.Joined.{or_left, or_right, or_cases}
use Rattle.model.specs.Pattern.{Pattern, Inside, lines, row_line, column_line, on}

-- a nonzero lies on the line of its row
pub on_row : (P : Pattern) (t : ℕ) → on P (row_line P t) t ≡ true
unfolding on
on_row P t = or_left (eqb (row_line P t) (column_line P t)) (eq-eqb (row_line P t) (row_line P t) refl)

-- a nonzero lies on the line of its column
pub on_column : (P : Pattern) (t : ℕ) → on P (column_line P t) t ≡ true
unfolding on
on_column P t = or_right (eqb (column_line P t) (row_line P t)) (eq-eqb (column_line P t) (column_line P t) refl)

-- a line that holds a nonzero is the line of its row or of its column
pub on_cases : (P : Pattern) (l t : ℕ) → on P l t ≡ true → (l ≡ row_line P t) ⊎ (l ≡ column_line P t)
unfolding on
on_cases P l t h =
    ⊎_elim
    (λ e. inl (eqb-true l (row_line P t) e))
    (λ e. inr (eqb-true l (column_line P t) e))
    (or_cases (eqb l (row_line P t)) (eqb l (column_line P t)) h)

-- the line of a nonzero's row is a line of the matrix
pub row_line_in : (P : Pattern) (t : ℕ) → Inside P → t < P.size → row_line P t < lines P
unfolding row_line lines
row_line_in P t i b = omega (arith, i.row-in t b)

-- the line of a nonzero's column is a line of the matrix
pub column_line_in : (P : Pattern) (t : ℕ) → Inside P → t < P.size → column_line P t < lines P
unfolding column_line lines
column_line_in P t i b = omega (arith, i.column-in t b)

-- a line that holds a nonzero is a line of the matrix
pub on_line_in : (P : Pattern) (l t : ℕ) → Inside P → t < P.size → on P l t ≡ true → l < lines P
on_line_in P l t i b h =
    ⊎_elim
    (λ e. omega (arith, row_line_in P t i b))
    (λ e. omega (arith, column_line_in P t i b))
    (on_cases P l t h)
