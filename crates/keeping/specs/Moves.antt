-- How the tally and the sums differ with one line: with and without it, with one untaken nonzero of it more or less, and for its crossing lines.
-- Assumes nothing.
use Rattle.std.specs.Prelude.{List, ◌≡◌, ℕ, ◌+◌, ◌≤◌, ◌<◌, eqb, ltb, length, get_or}
use Rattle.counting.specs.Tests.{◌and◌, pick, bit}
use Rattle.model.specs.Limits.{line_room}
use Rattle.keeping.specs.Tied.{weight_room, both_place, torn_place, conflicts_place, tally_place, near_place, tally_room}

-- the second list has v more than the first at place i, and is equal to it elsewhere
pub record Raised (i v : ℕ) (xs ys : List ℕ) : Type 0 where
  pub long : length ys ≡ length xs
  pub more : (j : ℕ) → j < length xs → get_or ys j 0 ≡ get_or xs j 0 + pick (eqb j i) v 0

-- how many crossing lines of a line have kind p, of the numbers for kind 0 and kind 1
unfoldable pub near_in : ℕ → ℕ → ℕ → ℕ
near_in first second p = pick (eqb p 0) first second

-- the second tally and sums have a line of this kind more than the first, with so many untaken nonzeros and crossing lines that lean to the same and to the other part
pub record Adds (kind own same other : ℕ) (tally sums tally' sums' : List ℕ) : Type 0 where
  pub tally_long : length tally' ≡ length tally
  pub sums_long : length sums' ≡ length sums
  pub tally_adds :
      (p x : ℕ) → p < 2 → x < weight_room →
      get_or tally' (tally_place p x) 0 ≡ get_or tally (tally_place p x) 0 + bit (eqb kind p and eqb own x)
  pub near_stays :
      (p z : ℕ) → p < 2 → z < line_room → get_or tally' (near_place p z) 0 ≡ get_or tally (near_place p z) 0
  pub left_adds : (p : ℕ) → p < 2 → get_or sums' p 0 ≡ get_or sums p 0 + pick (eqb kind p) own 0
  pub both_adds :
      (p : ℕ) → p < 2 → get_or sums' (both_place p) 0 ≡ get_or sums (both_place p) 0 + pick (eqb kind p) same 0
  pub torn_adds : get_or sums' torn_place 0 ≡ get_or sums torn_place 0 + bit (eqb kind 3)
  pub conflicts_adds :
      get_or sums' conflicts_place 0 ≡ get_or sums conflicts_place 0 + pick (ltb kind 2) other 0

-- a line of this kind can be taken out of the tally and the sums
pub record Leavable (kind own same other : ℕ) (tally sums : List ℕ) : Type 0 where
  pub tally_long : length tally ≡ tally_room
  pub sums_long : length sums ≡ 6
  pub light : own < weight_room
  pub tally_some : kind < 2 → 1 ≤ get_or tally (tally_place kind own) 0
  pub left_some : kind < 2 → own ≤ get_or sums kind 0
  pub both_some : kind < 2 → same ≤ get_or sums (both_place kind) 0
  pub torn_some : kind ≡ 3 → 1 ≤ get_or sums torn_place 0
  pub conflicts_some : kind < 2 → other ≤ get_or sums conflicts_place 0

-- a line can be counted in the tally and the sums
pub record Enterable (own same other : ℕ) (tally sums : List ℕ) : Type 0 where
  pub tally_long : length tally ≡ tally_room
  pub sums_long : length sums ≡ 6
  pub light : own < weight_room
  pub same_few : same < 65536
  pub other_few : other < 65536
  pub tally-room : (p x : ℕ) → p < 2 → x < weight_room → get_or tally (tally_place p x) 0 < 65535
  pub sums_room : (i : ℕ) → i < 6 → get_or sums i 0 < 1_000_000_000

-- a line of this kind can get another number of untaken nonzeros
pub record Movable (kind from to : ℕ) (tally sums : List ℕ) : Type 0 where
  pub tally_long : length tally ≡ tally_room
  pub sums_long : length sums ≡ 6
  pub from_light : from < weight_room
  pub to_light : to < weight_room
  pub tally_some : kind < 2 → 1 ≤ get_or tally (tally_place kind from) 0
  pub tally-room : kind < 2 → get_or tally (tally_place kind to) 0 < 65535
  pub left_some : kind < 2 → from ≤ get_or sums kind 0
  pub left_room : kind < 2 → get_or sums kind 0 < 1_000_000_000

-- the second tally and sums have a line of this kind with another number of untaken nonzeros
pub record Moves (kind from to : ℕ) (tally sums tally' sums' : List ℕ) : Type 0 where
  pub tally_long : length tally' ≡ length tally
  pub sums_long : length sums' ≡ length sums
  pub tally_moves :
      (p x : ℕ) → p < 2 → x < weight_room →
      get_or tally' (tally_place p x) 0 + bit (eqb kind p and eqb from x)
      ≡ get_or tally (tally_place p x) 0 + bit (eqb kind p and eqb to x)
  pub near_stays :
      (p z : ℕ) → p < 2 → z < line_room → get_or tally' (near_place p z) 0 ≡ get_or tally (near_place p z) 0
  pub left_moves :
      (p : ℕ) → p < 2 → get_or sums' p 0 + pick (eqb kind p) from 0 ≡ get_or sums p 0 + pick (eqb kind p) to 0
  pub rest_stays : (i : ℕ) → 2 ≤ i → i < 6 → get_or sums' i 0 ≡ get_or sums i 0

-- the second tally has for each line so many crossing lines of this kind more than the first
pub record Nears (kind : ℕ) (much : ℕ → ℕ) (tally tally' : List ℕ) : Type 0 where
  pub long : length tally' ≡ length tally
  pub tally_stays :
      (p x : ℕ) → p < 2 → x < weight_room → get_or tally' (tally_place p x) 0 ≡ get_or tally (tally_place p x) 0
  pub near_adds :
      (p z : ℕ) → p < 2 → z < line_room →
      get_or tally' (near_place p z) 0 ≡ get_or tally (near_place p z) 0 + pick (eqb kind p) (much z) 0
