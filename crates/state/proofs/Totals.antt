-- k, from the counts of lines.
-- Assumes nothing.
use mathlib.Core.List.{List}
use mathlib.Core.Path.{◌≡◌, sym, ◌∙◌, ap}
use Prim.Native.Nat.{ℕ, ◌+◌, ◌≤◌, ◌<◌}
use native.Mathlib.Omega.{arith}
use lib.ListN.{get_or}
use Rattle.model.specs.Limits.{line_room}
use Rattle.model.specs.Pattern.{pattern_of, line_count, line_total}
use Rattle.model.proofs.Theorems.OfList.{lines_of}
use Rattle.pattern.specs.Room.{within}
use Rattle.pattern.proofs.Within.{within_all}
use Rattle.marking.specs.Order.{total_by}
use Rattle.marking.proofs.Ordered.{total_is}

-- the number of lines with nonzeros, from the counts of lines
pub total_of_counts :
    (m n nonzeros : ℕ) (list counts : List ℕ) (total : ℕ) → m + n ≤ line_room →
    ((i : ℕ) → i < line_room → get_or counts i 0 ≡ line_count (pattern_of m n nonzeros list) i) →
    total ≡ total_by counts (within (m + n)) → total ≡ line_total (pattern_of m n nonzeros list)
total_of_counts m n nonzeros list counts total few h e =
    e
    ∙ ap (total_by counts) (within_all (m + n) few ∙ sym (lines_of m n nonzeros list))
    ∙ total_is (pattern_of m n nonzeros list) counts (omega (arith, lines_of m n nonzeros list)) h
