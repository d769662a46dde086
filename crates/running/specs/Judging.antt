-- What a try is judged by: the counts that are kept of a marking.
-- Assumes nothing.
use Rattle.std.specs.Prelude.{true, ◌≡◌, ℕ, ◌≤◌, ◌<◌}
use Rattle.model.specs.declared.Caps.{Caps}
use Rattle.model.specs.Limits.{line_limit}
use Rattle.model.specs.Pattern.{Pattern, lines, line_count}
use Rattle.model.specs.Marking.{Marking, unmarked, valid}
use Rattle.pattern.specs.Matrix.{pattern_in}
use Rattle.running.specs.declared.kept.Kept.{Kept}
use Rattle.running.specs.declared.tables.Crossed.{Crossed}
use Rattle.running.specs.Kept.{KeepsOn}

-- no unmarked line has more than so many nonzeros
pub record Topped (P : Pattern) (μ : Marking) (top : ℕ) : Type 0 where
  pub light : top ≤ line_limit
  pub above : (l : ℕ) → l < lines P → unmarked ≤ μ l → line_count P l ≤ top

-- a valid marking of the pattern at hand, of which all is kept
pub record Judgeable (t : Crossed) (kept : Kept) (caps : Caps) (top : ℕ) : Type 0 where
  pub μ : Marking
  pub holds : KeepsOn t μ kept
  pub meets_caps : valid (pattern_in t.matrix) caps μ ≡ true
  pub topped : Topped (pattern_in t.matrix) μ top
