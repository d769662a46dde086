-- The tables of a pattern, as they are made of an accepted list.
-- Assumes nothing.
use Rattle.std.specs.Prelude.{List, ◌≡◌, ℕ, ◌<◌, length, get_or}
use Rattle.model.specs.Limits.{line_room}
use Rattle.model.specs.Pattern.{Pattern, lines, line_count}
use Rattle.pattern.specs.declared.matrix.Matrix.{Matrix}
use Rattle.pattern.specs.Matrix.{pattern_in}
use Rattle.crossing.specs.Crossing.{Laid, Ordered}
use Rattle.bound.specs.Evaluated.{Listed}
use Rattle.state.specs.Ready.{ReadyIn}

-- the tables of a pattern's lines: nonzero counts, crossing lines and the order
pub record Tabled (P : Pattern) (counts starts cross order : List ℕ) : Type 0 where
  pub laid : Laid P starts cross
  pub ordered : Ordered P order
  pub counts_long : length counts ≡ line_room
  pub counts_are : (l : ℕ) → l < lines P → get_or counts l 0 ≡ line_count P l

-- an accepted list with its row starts and the nonzero counts of its lines
pub record CountedOf (x : Matrix) (rows counts : List ℕ) : Type 0 where
  pub listed : Listed x.m x.n x.nonzeros x.list.now rows
  pub counts_long : length counts ≡ line_room
  pub counts_are : (l : ℕ) → l < line_room → get_or counts l 0 ≡ line_count (pattern_in x) l

-- and with its crossing lines
pub record CrossedOf (x : Matrix) (rows counts starts cross : List ℕ) : Type 0 where
  pub listed : Listed x.m x.n x.nonzeros x.list.now rows
  pub laid : Laid (pattern_in x) starts cross
  pub counts_long : length counts ≡ line_room
  pub counts_are : (l : ℕ) → l < lines (pattern_in x) → get_or counts l 0 ≡ line_count (pattern_in x) l

-- the lines of an accepted list, ranked
pub record RankedOf (x : Matrix) (rows counts places : List ℕ) (full : ℕ) : Type 0 where
  pub ready : ReadyIn x places rows full
  pub counts_long : length counts ≡ line_room
  pub counts_are : (l : ℕ) → l < line_room → get_or counts l 0 ≡ line_count (pattern_in x) l

-- all tables of an accepted list
pub record TablesOf (x : Matrix) (rows counts places starts cross order : List ℕ) (full : ℕ) : Type 0 where
  pub ready : ReadyIn x places rows full
  pub tabled : Tabled (pattern_in x) counts starts cross order
