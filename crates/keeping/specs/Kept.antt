-- What is kept of a marking: its marks, how many crossing lines of each line are marked 0 and 1 and how many are neither, the kinds of lines,
-- what is tied to these, the loads and the number of cut lines.
-- Assumes nothing.
use Rattle.std.specs.Prelude.{Bool, true, false, List, ◌≡◌, ℕ, ◌+◌, ◌-◌, ◌*◌, ◌≤◌, ◌<◌, eqb, leb, length, get_or}
use Rattle.counting.specs.Tests.{pick, bit}
use Rattle.model.specs.declared.Part.{Part}
use Rattle.model.specs.declared.Mark.TheVariants.{Cut}
use Rattle.model.specs.Limits.{line_room}
use Rattle.model.specs.Pattern.{Pattern, lines}
use Rattle.model.specs.Split.{part_number}
use Rattle.model.specs.Marking.{Marking, mark_number, unmarked, taken}
use Rattle.model.specs.Bound.{L1}
use Rattle.crossing.specs.Crossing.{over_line, Laid}
use Rattle.keeping.specs.Kinds.{cells, kind_of}
use Rattle.keeping.specs.Tied.{Tied, near_place, tally_room}

-- how many crossing lines of line y have mark p
unfoldable pub crossing_with : Pattern → Marking → ℕ → ℕ → ℕ
crossing_with P μ p y = over_line P y (λ z. bit (eqb (μ z) p))

-- how many crossing lines of line y are cut or unmarked
unfoldable pub crossing_open : Pattern → Marking → ℕ → ℕ
crossing_open P μ y = over_line P y (λ z. bit (leb 2 (μ z)))

-- how many nonzeros line l and line y share
unfoldable pub meets : Pattern → ℕ → ℕ → ℕ
meets P l y = over_line P l (λ z. bit (eqb z y))

-- line y can be counted once more, or once less, among the crossing lines of this kind of each line that it crosses
pub record Shiftable (starts cross tally : List ℕ) (y kind : ℕ) (up : Bool) : Type 0 where
  pub pattern : Pattern
  pub laid : Laid pattern starts cross
  pub line : y < lines pattern
  pub tally_long : length tally ≡ tally_room
  pub room :
      up ≡ true → kind < 2 → (z : ℕ) → z < lines pattern →
      get_or tally (near_place kind z) 0 + meets pattern y z < 65536
  pub some :
      up ≡ false → kind < 2 → (z : ℕ) → z < lines pattern → meets pattern y z ≤ get_or tally (near_place kind z) 0

-- no nonzero
abbrev pub none : ℕ → ℕ
none y = 0

-- the counts of a marking, with a number of each line's nonzeros taken by p besides
pub record Counted (P : Pattern) (μ : Marking) (p : ℕ) (more : ℕ → ℕ) (by left : List ℕ) : Type 0 where
  pub by_long : length by ≡ 2 * line_room
  pub left_long : length left ≡ line_room
  pub by_is :
      (q y : ℕ) → q < 2 → y < lines P →
      get_or by (line_room * q + y) 0 ≡ crossing_with P μ q y + pick (eqb q p) (more y) 0
  pub left_is : (y : ℕ) → y < lines P → get_or left y 0 + more y ≡ crossing_open P μ y

-- the kinds of lines are those of their marks and counts
pub record Agree (P : Pattern) (marks by kinds : List ℕ) : Type 0 where
  pub kinds_long : length kinds ≡ line_room
  pub kind_is :
      (y : ℕ) → y < lines P → get_or kinds y 0 ≡ kind_of (get_or marks y 0) (get_or by y 0) (get_or by (line_room + y) 0)

-- the arrays while the nonzeros of a line are taken by p or given back, one by one
pub record Stage (P : Pattern) (μ : Marking) (p : ℕ) (more : ℕ → ℕ) (marks by left kinds tally sums : List ℕ) : Type 0 where
  pub counts : Counted P μ p more by left
  pub agree : Agree P marks by kinds
  pub tied : Tied P (cells kinds) (cells left) tally sums

-- all that is kept of a marking; loads are D0, D1 and the number of cut lines
pub record Holds (P : Pattern) (μ : Marking) (marks by left kinds tally sums loads : List ℕ) : Type 0 where
  pub marks_long : length marks ≡ line_room
  pub marks_are : (l : ℕ) → l < lines P → get_or marks l 0 ≡ μ l
  pub stage : Stage P μ 0 none marks by left kinds tally sums
  pub loads_long : length loads ≡ 3
  pub taken_is : (p : Part) → get_or loads (part_number p) 0 ≡ taken P μ p
  pub cut_is : get_or loads (mark_number Cut) 0 ≡ L1 P μ

-- a marking with another mark for line l
unfoldable pub marking_with : Marking → ℕ → ℕ → Marking
marking_with μ l p z = pick (eqb z l) p (μ z)

-- line l, unmarked, can get mark p: no nonzero of it is taken by the other part
pub record Placeable (P : Pattern) (μ : Marking) (l p : ℕ) : Type 0 where
  pub line : l < lines P
  pub free : μ l ≡ unmarked
  pub mark : p ≤ mark_number Cut
  pub clear : p < 2 → crossing_with P μ (1 - p) l ≡ 0

-- the nonzeros of a line can be taken by p
pub record Takes (starts cross marks by left kinds tally sums : List ℕ) (l p : ℕ) : Type 0 where
  pub pattern : Pattern
  pub μ : Marking
  pub laid : Laid pattern starts cross
  pub line : l < lines pattern
  pub part : p < 2
  pub free : μ l ≡ unmarked
  pub stage : Stage pattern μ p none marks by left kinds tally sums

-- the nonzeros of a line can be given back by p
pub record Gives (starts cross marks by left kinds tally sums : List ℕ) (l p : ℕ) : Type 0 where
  pub pattern : Pattern
  pub μ : Marking
  pub laid : Laid pattern starts cross
  pub line : l < lines pattern
  pub part : p < 2
  pub free : μ l ≡ unmarked
  pub stage : Stage pattern μ p (meets pattern l) marks by left kinds tally sums

-- line l can get mark p
pub record Pushable (starts cross marks by left kinds tally sums loads : List ℕ) (l p : ℕ) : Type 0 where
  pub pattern : Pattern
  pub μ : Marking
  pub laid : Laid pattern starts cross
  pub placeable : Placeable pattern μ l p
  pub holds : Holds pattern μ marks by left kinds tally sums loads

-- line l can lose its mark
pub record Poppable (starts cross marks by left kinds tally sums loads : List ℕ) (l : ℕ) : Type 0 where
  pub pattern : Pattern
  pub μ : Marking
  pub p : ℕ
  pub laid : Laid pattern starts cross
  pub placeable : Placeable pattern μ l p
  pub holds : Holds pattern (marking_with μ l p) marks by left kinds tally sums loads
