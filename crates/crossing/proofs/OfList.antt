-- The pattern of a list within the limits: what the tables are given.
-- Assumes nothing.
use mathlib.Core.List.{List}
use mathlib.Core.Path.{◌≡◌, sym}
use Prim.Native.Nat.{ℕ, ◌+◌, ◌≤◌, ◌<◌}
use native.Mathlib.Omega.{arith}
use lib.ListN.{get_or}
use Rattle.model.specs.Limits.{line_limit, line_room, nonzero_limit}
use Rattle.model.specs.Pattern.{Pattern, Inside, pattern_of, lines, line_count}
use Rattle.pattern.specs.Room.{within}
use Rattle.pattern.proofs.Within.{within_all}
use Rattle.crossing.specs.Tables.{Limited, Counted}
use Rattle.crossing.proofs.Starts.{lines_few}

pub list_limited :
    (m n nonzeros : ℕ) (list : List ℕ) → m ≤ line_limit → n ≤ line_limit → nonzeros ≤ nonzero_limit →
    Inside (pattern_of m n nonzeros list) →
    ((l : ℕ) → line_count (pattern_of m n nonzeros list) l ≤ line_limit) → Limited (pattern_of m n nonzeros list)
unfolding pattern_of
list_limited m n nonzeros list rows columns small inside thin =
    record { rows_small = rows; columns_small = columns; small = small; inside = inside; thin = thin }

-- arrays by line have room for all its lines
pub list-lines :
    (m n nonzeros : ℕ) (list : List ℕ) → m ≤ line_limit → n ≤ line_limit →
    lines (pattern_of m n nonzeros list) ≡ within (m + n)
unfolding pattern_of lines
list-lines m n nonzeros list rows columns = sym (within_all (m + n) (omega arith))

-- counts in an array by line
pub lines-counted :
    {P : Pattern} (counts : List ℕ) → Limited P →
    ((l : ℕ) → l < line_room → get_or counts l 0 ≡ line_count P l) → Counted P counts
lines-counted counts limited h l b = h l (omega (arith, lines_few limited))
