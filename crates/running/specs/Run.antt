-- A run: the walk's record after so many tries, as the code holds it between two tries.
-- Assumes nothing.
use Rattle.std.specs.Prelude.{Bool, true, ◌≡◌, ℕ, ◌+◌, ◌*◌, ◌≤◌}
use Rattle.trail.specs.declared.Trail.{Trail}
use Rattle.model.specs.declared.Search.{Search}
use Rattle.model.specs.Limits.{budget_limit, tries_limit}
use Rattle.model.specs.Pattern.{Pattern, line_total}
use Rattle.model.specs.Marking.{marking}
use Rattle.model.specs.Walk.{Record, Rules, rules_of, is_empty}
use Rattle.model.specs.State.{trail_of, is_found, best_or, caps_in, record_of, search_of, state_fine}
use Rattle.model.proofs.Walk.Legal.{Legal}
use Rattle.packing.specs.declared.PackedTrail.{PackedTrail}
use Rattle.packing.specs.Packed.{earlier, Packs}
use Rattle.pattern.specs.declared.matrix.Matrix.{Matrix}
use Rattle.pattern.specs.Matrix.{pattern_in}
use Rattle.running.specs.declared.kept.Kept.{Kept}
use Rattle.running.specs.declared.tables.Tables.{Tables}
use Rattle.running.specs.Kept.{Keeps, KeepsOn}

-- a record of the walk between two tries: its trail packed, its best marking, best count and looks, and what is kept of its marks but the last
pub record Goes (P : Pattern) (r : Record) (trail : PackedTrail) (best : Trail) (count : ℕ) (found : Bool) (looks : ℕ) (kept : Kept) : Type 0 where
  pub packs : Packs trail r.trail
  pub best_is : best ≡ trail_of (best_or r.best)
  pub count_is : count ≡ r.best_count
  pub found_is : found ≡ is_found r.best
  pub looks_is : looks ≡ r.looks
  pub holds : Keeps P (marking P (earlier r.trail)) kept

-- the rules of a pattern with the caps of a search
abbrev pub rules_in : Search → Matrix → Rules
rules_in s x = rules_of (pattern_in x) (caps_in s)

-- a search of a pattern that is not refused, so many marks for a full trail, no more than the pattern's own, and room for the tries to be made
pub record Startable (s : Search) (x : Matrix) (k budget : ℕ) : Type 0 where
  pub room : s.tries + budget ≤ tries_limit + budget_limit
  pub held : s ≡ search_of (record_of s)
  pub within : k ≤ line_total (pattern_in x)
  pub legal : Legal (rules_in s x) (record_of s).trail
  pub ended : s.complete ≡ is_empty (record_of s).trail
  pub looked : s.looks ≤ s.tries * (x.m * x.nonzeros)

-- such a search, with all that is kept of its trail but the last mark
pub record Walkable (s : Search) (t : Tables) (kept : Kept) (k budget : ℕ) : Type 0 where
  pub startable : Startable s t.crossed.matrix k budget
  pub holds : KeepsOn t.crossed (marking (pattern_in t.crossed.matrix) (earlier (record_of s).trail)) kept

-- what a run and a showing are made on: a pattern, and a state of it that is not refused
pub record Tryable (x : Matrix) (s : Search) : Type 0 where
  pub fine : state_fine (rules_in s x) x.m x.n x.nonzeros (record_of s) ≡ true
