-- Counts that are tied to the kinds of lines and their untaken nonzeros, whatever marking these come from.
-- Assumes nothing.
use Rattle.std.specs.Prelude.{List, ◌≡◌, ℕ, ◌+◌, ◌*◌, ◌≤◌, ◌<◌, length, get_or}
use Rattle.model.specs.Limits.{line_room, line_limit}
use Rattle.model.specs.Pattern.{Pattern, lines}
use Rattle.crossing.specs.Crossing.{Laid}
use Rattle.keeping.specs.Kinds.{cells, tally_of, leaning_left, pairs, both_are, apart, torn_of, near}

-- places of the array of sums: untaken nonzeros of the lines of kind 0 and 1, nonzeros of two lines of kind 0 and 1, torn lines, conflicts
abbrev pub both_place : ℕ → ℕ
both_place p = 2 + p

abbrev pub torn_place : ℕ
torn_place = 4

abbrev pub conflicts_place : ℕ
conflicts_place = 5

-- room for a number of untaken nonzeros of a line, 0 to line_limit: no line of an accepted list has more nonzeros
abbrev pub weight_room : ℕ
weight_room = line_limit + 1

-- where lines of kind p with x untaken nonzeros are counted
abbrev pub tally_place : ℕ → ℕ → ℕ
tally_place p x = weight_room * p + x

-- where the crossing lines of line y with kind p are counted: in the same array, behind the lines counted by weight
abbrev pub near_place : ℕ → ℕ → ℕ
near_place p y = 2 * weight_room + line_room * p + y

-- room of that array: for each part a number for each weight, then a number for each line
abbrev pub tally_room : ℕ
tally_room = 2 * weight_room + 2 * line_room

-- the tally and the sums are those of the kinds of lines and their untaken nonzeros; the tally holds the lines of each part by weight, then
-- for each line how many of its crossing lines lean to each part
pub record Tied (P : Pattern) (kind left : ℕ → ℕ) (tally sums : List ℕ) : Type 0 where
  pub tally_long : length tally ≡ tally_room
  pub sums_long : length sums ≡ 6
  pub light : (l : ℕ) → l < lines P → left l < weight_room
  pub tally_is : (p x : ℕ) → p < 2 → x < weight_room → get_or tally (tally_place p x) 0 ≡ tally_of P kind left p x
  pub near_is : (p y : ℕ) → p < 2 → y < lines P → get_or tally (near_place p y) 0 ≡ near P kind p y
  pub left_is : (p : ℕ) → p < 2 → get_or sums p 0 ≡ leaning_left P kind left p
  pub both_is : (p : ℕ) → p < 2 → get_or sums (both_place p) 0 ≡ pairs P (both_are p) kind
  pub torn_is : get_or sums torn_place 0 ≡ torn_of P kind
  pub conflicts_is : get_or sums conflicts_place 0 ≡ pairs P apart kind

-- a line whose kind can be changed
pub record Turnable (starts cross kinds left tally sums : List ℕ) (y : ℕ) : Type 0 where
  pub pattern : Pattern
  pub laid : Laid pattern starts cross
  pub tied : Tied pattern (cells kinds) (cells left) tally sums
  pub kinds_long : length kinds ≡ line_room
  pub line : y < lines pattern

-- a line of which one more untaken nonzero can be taken by p
pub record Takeable (by left kinds tally sums : List ℕ) (y p : ℕ) : Type 0 where
  pub pattern : Pattern
  pub tied : Tied pattern (cells kinds) (cells left) tally sums
  pub few : lines pattern ≤ line_room
  pub left_long : length left ≡ line_room
  pub line : y < lines pattern
  pub part : p < 2
  pub some : 1 ≤ get_or left y 0
  pub room : get_or by (line_room * p + y) 0 < 65535

-- a line of which one nonzero taken by p can be given back
pub record Givable (by left kinds tally sums : List ℕ) (y p : ℕ) : Type 0 where
  pub pattern : Pattern
  pub tied : Tied pattern (cells kinds) (cells left) tally sums
  pub few : lines pattern ≤ line_room
  pub left_long : length left ≡ line_room
  pub line : y < lines pattern
  pub part : p < 2
  pub room : get_or left y 0 + 1 < weight_room
  pub some : 1 ≤ get_or by (line_room * p + y) 0
