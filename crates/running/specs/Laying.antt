-- All that is kept of a valid marking: its marks are placed line by line.
-- Assumes nothing.
use Rattle.std.specs.Prelude.{true, List, [], ◌≡◌, ℕ, ◌<◌, min, ltb}
use Rattle.counting.specs.Tests.{pick}
use Rattle.model.specs.declared.Caps.{Caps}
use Rattle.model.specs.Pattern.{Pattern, lines}
use Rattle.model.specs.Marking.{Marking, marking, unmarked, valid}
use Rattle.pattern.specs.Matrix.{pattern_in}
use Rattle.weighing.specs.Cells.{marking_in}
use Rattle.keeping.specs.Kept.{Placeable}
use Rattle.running.specs.declared.kept.Kept.{Kept}
use Rattle.running.specs.declared.tables.Crossed.{Crossed}
use Rattle.running.specs.Kept.{KeepsOn}

-- the marks of the lines before l; a number that is no mark is read as none
unfoldable pub first_marks : Marking → ℕ → Marking
first_marks μ l z = pick (ltb z l) (min (μ z) unmarked) unmarked

-- line l, unmarked, can get mark p where p is one
pub record Settable (P : Pattern) (μ : Marking) (l p : ℕ) : Type 0 where
  pub free : μ l ≡ unmarked
  pub placeable : p < unmarked → Placeable P μ l p

-- it can, by the crossing lines and what is kept of the marking
pub record SettableIn (t : Crossed) (kept : Kept) (l p : ℕ) : Type 0 where
  pub μ : Marking
  pub settable : Settable (pattern_in t.matrix) μ l p
  pub holds : KeepsOn t μ kept

-- the marks of an array, which make a valid marking, can be placed line by line
pub record Givable (t : Crossed) (given : List ℕ) (kept : Kept) (end : ℕ) : Type 0 where
  pub caps : Caps
  pub every : end ≡ lines (pattern_in t.matrix)
  pub fits : valid (pattern_in t.matrix) caps (marking_in given) ≡ true
  pub holds : KeepsOn t (marking (pattern_in t.matrix) []) kept

-- so they can, on what is kept of no marks
pub record Keepable (given : List ℕ) (t : Crossed) (end : ℕ) : Type 0 where
  pub caps : Caps
  pub every : end ≡ lines (pattern_in t.matrix)
  pub fits : valid (pattern_in t.matrix) caps (marking_in given) ≡ true
