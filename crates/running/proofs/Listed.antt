-- The tables of a list that is in order, as they are made: its lines' own, and all of them.
-- Assumes nothing.
use mathlib.Core.List.{List}
use mathlib.Core.Path.{◌≡◌, sym, ◌∙◌}
use Prim.Native.Nat.{ℕ, ◌+◌, ◌<◌}
use lib.ListN.{length, get_or}
use Rattle.model.specs.Limits.{line_room}
use Rattle.model.specs.Pattern.{pattern_of, lines, line_count}
use Rattle.pattern.specs.Room.{within}
use Rattle.crossing.specs.Crossing.{Laid}
use Rattle.crossing.specs.Tables.{StartsOf, OrderOf, LaidFrom}
use Rattle.crossing.proofs.OfList.{list-lines, lines-counted}
use Rattle.bound.specs.Evaluated.{Listed, Placed}
use Rattle.running.specs.Tabled.{Tabled}
use Rattle.running.proofs.Beginnings.{listed_limited}

-- the tables of its lines
pub lines_tabled :
    {m n nonzeros : ℕ} {list rows starts cross : List ℕ} (counts : List ℕ) (total : ℕ) → Listed m n nonzeros list rows → total ≡ within (m + n) →
    ((l : ℕ) → l < line_room → get_or counts l 0 ≡ line_count (pattern_of m n nonzeros list) l) →
    length starts ≡ line_room → StartsOf total counts starts → LaidFrom (pattern_of m n nonzeros list) starts cross →
    Laid (pattern_of m n nonzeros list) starts cross
    × ((l : ℕ) → l < lines (pattern_of m n nonzeros list) → get_or counts l 0 ≡ line_count (pattern_of m n nonzeros list) l)
lines_tabled {m} {n} {nonzeros} {list} counts total l e counted long started laid =
    let limited = listed_limited l in
    let every = list-lines m n nonzeros list l.rows_small l.columns_small ∙ sym e in
    let counts_are = lines-counted counts limited counted in
    (laid long limited (started (pattern_of m n nonzeros list) limited every counts_are), counts_are)

-- with the lines in order
pub listed_tabled :
    {m n nonzeros : ℕ} {list rows counts places starts cross order : List ℕ} (total : ℕ) → Listed m n nonzeros list rows → total ≡ within (m + n) →
    length counts ≡ line_room → ((l : ℕ) → l < line_room → get_or counts l 0 ≡ line_count (pattern_of m n nonzeros list) l) →
    Placed (pattern_of m n nonzeros list) places →
    length starts ≡ line_room → StartsOf total counts starts → LaidFrom (pattern_of m n nonzeros list) starts cross → OrderOf total places order →
    Tabled (pattern_of m n nonzeros list) counts starts cross order
listed_tabled {m} {n} {nonzeros} {list} {counts = counts} total l e wide counted placed long started laid ordered =
    let tables = lines_tabled counts total l e counted long started laid in
    record {
      laid = tables.0;
      ordered = ordered (pattern_of m n nonzeros list) (listed_limited l) (list-lines m n nonzeros list l.rows_small l.columns_small ∙ sym e) placed.placed;
      counts_long = wide;
      counts_are = tables.1;
    }
