-- Crossing lines: the nonzeros of a line, each with the other line that holds it, and tables that list them.
-- Assumes nothing.
use Rattle.std.specs.Prelude.{List, ◌≡◌, ℕ, ◌+◌, ◌-◌, ◌*◌, ◌≤◌, ◌<◌, eqb, get_or}
use Rattle.counting.specs.Tests.{pick}
use Rattle.counting.specs.Sums.{sum}
use Rattle.trail.specs.Trail.{mark_room}
use Rattle.model.specs.Limits.{line_limit, nonzero_limit}
use Rattle.model.specs.Pattern.{Pattern, Inside, lines, row_line, column_line, on, line_count, line_total}
use Rattle.model.proofs.Order.Places.{line_at}

-- the line that crosses line l at nonzero t, which l holds
unfoldable pub across : Pattern → ℕ → ℕ → ℕ
across P l t = pick (eqb l (row_line P t)) (column_line P t) (row_line P t)

-- the sum, over the nonzeros of line l, of a number of the crossing line
unfoldable pub over_line : Pattern → ℕ → (ℕ → ℕ) → ℕ
over_line P l f = sum (λ t. pick (on P l t) (f (across P l t)) 0) P.size

-- the sum along a part of a table of lines
unfoldable pub along : List ℕ → (ℕ → ℕ) → ℕ → ℕ → ℕ
along cross f a b = sum (λ i. f (get_or cross (a + i) 0)) (b - a)

-- room for the two lines of every nonzero
abbrev pub cross_room : ℕ
cross_room = 2 * nonzero_limit

-- the tables of a pattern: the crossing lines of line l stand in the second from where the first has l to where it has l + 1
pub record Laid (P : Pattern) (starts cross : List ℕ) : Type 0 where
  pub few : lines P ≤ mark_room
  pub small : P.size ≤ nonzero_limit
  pub inside : Inside P
  pub thin : (l : ℕ) → line_count P l ≤ line_limit
  pub rises : (l : ℕ) → l < lines P → get_or starts l 0 ≤ get_or starts (l + 1) 0
  pub within : (l : ℕ) → l < lines P → get_or starts (l + 1) 0 ≤ cross_room
  pub lined :
      (l i : ℕ) → l < lines P → get_or starts l 0 ≤ i → i < get_or starts (l + 1) 0 → get_or cross i 0 < lines P
  pub crosses :
      (f : ℕ → ℕ) (l : ℕ) → l < lines P → along cross f (get_or starts l 0) (get_or starts (l + 1) 0) ≡ over_line P l f

-- the line at each place of the order
pub record Ordered (P : Pattern) (order : List ℕ) : Type 0 where
  pub line_is : (d : ℕ) → d < line_total P → get_or order d 0 ≡ line_at P d
