-- What the code is given: an accepted list with where its rows start, the places of its lines, and how lines lean.
-- Assumes nothing.
use Rattle.std.specs.Prelude.{List, ◌≡◌, ℕ, suc, ◌≤◌, ◌<◌, eqb, get_or}
use Rattle.model.specs.declared.Part.{Part}
use Rattle.model.specs.Limits.{line_room, line_limit, nonzero_limit}
use Rattle.model.specs.Pattern.{Pattern, Inside, pattern_of, lines, line_count, row_in}
use Rattle.model.specs.Split.{part_number}
use Rattle.model.specs.Marking.{Marking, place}
use Rattle.model.specs.Bound.{leans}
use Rattle.matching.specs.declared.augmenting.Matching.{Matching}
use Rattle.matching.specs.Starts.{side_room, row_start}

-- what depends on the pattern alone, as the code lends it: an accepted list, and where its rows start
pub record Listed (m n nonzeros : ℕ) (list starts : List ℕ) : Type 0 where
  pub rows_small : m ≤ line_limit
  pub columns_small : n ≤ line_limit
  pub small : nonzeros ≤ nonzero_limit
  pub inside : Inside (pattern_of m n nonzeros list)
  pub rising : (t : ℕ) → suc t < nonzeros → row_in list t ≤ row_in list (suc t)
  pub thin : (l : ℕ) → line_count (pattern_of m n nonzeros list) l ≤ line_limit
  pub started : (i : ℕ) → i ≤ side_room → get_or starts i 0 ≡ row_start (pattern_of m n nonzeros list) i

-- the places of its lines, and 0 past them
pub record Placed (P : Pattern) (places : List ℕ) : Type 0 where
  pub placed : (l : ℕ) → l < lines P → get_or places l 0 ≡ place P l
  pub others : (l : ℕ) → lines P ≤ l → l < line_room → get_or places l 0 ≡ 0

-- an array of how lines lean is that of a marking
abbrev pub LeansAt : Pattern → Marking → List ℕ → Type 0
LeansAt P μ lean = (p : Part) (l : ℕ) → l < lines P → eqb (get_or lean l 0) (part_number p) ≡ leans P μ p l

-- the matching of no conflicts
abbrev pub no_matching : Matching
no_matching = record { size = 0; looks = 0 }
