-- Document 01, 'Pattern, split, cap', with the numbers of document 02's request 7: the list of nonzeros, the pattern, and its lines.
-- Assumes nothing.
use Rattle.std.specs.Prelude.{Bool, List, [], ◌∷◌, ℕ, ◌+◌, ◌*◌, ◌/◌, ◌%◌, ◌<◌, eqb, ltb, get_or, set}
use Rattle.counting.specs.Tests.{◌or◌}
use Rattle.counting.specs.Sums.{count}

-- the bytes that a row or column number takes in a list
abbrev pub number_bytes : ℕ
number_bytes = 2

-- an entry of a list: a nonzero's row number, then its column number
abbrev pub entry_bytes : ℕ
entry_bytes = 2 * number_bytes

-- where the numbers of a nonzero stand in a list
abbrev pub row_place : ℕ → ℕ
row_place t = entry_bytes * t

abbrev pub column_place : ℕ → ℕ
column_place t = entry_bytes * t + number_bytes

-- the low and the high byte of the number at a place
unfoldable pub low_in : List ℕ → ℕ → ℕ
low_in list at = get_or list at 0

unfoldable pub high_in : List ℕ → ℕ → ℕ
high_in list at = get_or list (at + 1) 0

-- a number of two bytes, lowest first
unfoldable pub number_in : List ℕ → ℕ → ℕ
number_in list at = low_in list at + 256 * high_in list at

-- a nonzero's row number
unfoldable pub row_in : List ℕ → ℕ → ℕ
row_in list t = number_in list (row_place t)

-- a nonzero's column number
unfoldable pub column_in : List ℕ → ℕ → ℕ
column_in list t = number_in list (column_place t)

-- a list with this number at a place
unfoldable pub with_number : ℕ → ℕ → List ℕ → List ℕ
with_number at x list = set (set list at (x % 256)) (at + 1) (x / 256)

-- a list with this row and column number for a nonzero
unfoldable pub with_entry : ℕ → ℕ → ℕ → List ℕ → List ℕ
with_entry t row column list = with_number (column_place t) column (with_number (row_place t) row list)

-- the list that holds these row and column numbers
abbrev pub list_of : List ℕ → List ℕ
list_of [] = []
list_of (x ∷ xs) = x % 256 ∷ x / 256 ∷ list_of xs

-- pattern: m rows, n columns, N nonzeros numbered from 0, each in a row and a column counted from 0
pub record Pattern : Type 0 where
  pub m : ℕ
  pub n : ℕ
  pub size : ℕ
  pub row : ℕ → ℕ
  pub column : ℕ → ℕ

-- the pattern of a list
unfoldable pub pattern_of : ℕ → ℕ → ℕ → List ℕ → Pattern
pattern_of m n nonzeros list =
    record { m = m; n = n; size = nonzeros; row = row_in list; column = column_in list }

-- line: rows and columns together
unfoldable pub lines : Pattern → ℕ
lines P = P.m + P.n

-- row i is line i: the line of a nonzero's row
unfoldable pub row_line : Pattern → ℕ → ℕ
row_line P t = P.row t

-- column j is line m + j: the line of a nonzero's column
unfoldable pub column_line : Pattern → ℕ → ℕ
column_line P t = P.m + P.column t

-- line l holds nonzero t
unfoldable pub on : Pattern → ℕ → ℕ → Bool
on P l t = eqb l (row_line P t) or eqb l (column_line P t)

-- nonzero count of a line
unfoldable pub line_count : Pattern → ℕ → ℕ
line_count P l = count (on P l) P.size

-- a line with nonzeros
unfoldable pub nonempty : Pattern → ℕ → Bool
nonempty P l = ltb 0 (line_count P l)

-- k: the number of lines with nonzeros
unfoldable pub line_total : Pattern → ℕ
line_total P = count (nonempty P) (lines P)

-- every nonzero lies in the matrix, as check 5 sees to
pub record Inside (P : Pattern) : Type 0 where
  pub row-in : (t : ℕ) → t < P.size → P.row t < P.m
  pub column-in : (t : ℕ) → t < P.size → P.column t < P.n
