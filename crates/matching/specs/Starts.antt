-- Where the nonzeros of a row start in the list, which is sorted by rows.
-- Assumes nothing.
use Rattle.std.specs.Prelude.{List, ℕ, ◌+◌, eqb, ltb, replicate}
use Rattle.counting.specs.Sums.{count}
use Rattle.model.specs.Limits.{line_limit}
use Rattle.model.specs.Pattern.{Pattern, row_in}

-- rows, or columns, that the arrays have room for
abbrev pub side_room : ℕ
side_room = line_limit

-- a number for each row, and one more
abbrev pub side_ends : ℕ
side_ends = side_room + 1

-- the number of nonzeros in rows before row i: where the rows are sorted, those of row i are numbered from row_start P i to row_start P (i + 1) - 1
unfoldable pub row_start : Pattern → ℕ → ℕ
row_start P i = count (λ t. ltb (P.row t) i) P.size

-- the number of nonzeros, among the first of them, in the row just before row i; 0 for row 0
unfoldable pub row_count : List ℕ → ℕ → ℕ → ℕ
row_count list nonzeros i = count (λ t. eqb (row_in list t + 1) i) nonzeros

-- 0 for each row, and one more
unfoldable pub no_starts : List ℕ
no_starts = replicate side_ends 0
