-- What a run and a showing have at hand: the tables of an accepted list, and a search whose markings fit.
-- Assumes nothing.
use Rattle.std.specs.Prelude.{List, ◌≡◌, ℕ, ◌≤◌, length}
use Rattle.std.proofs.Math.Option.{some}
use Rattle.trail.specs.Trail.{mark_room}
use Rattle.model.specs.Pattern.{pattern_of, line_total}
use Rattle.model.specs.Walk.{Record}
use Rattle.pattern.specs.declared.matrix.Matrix.{Matrix}
use Rattle.bound.specs.Evaluated.{Listed, Placed}

-- the tables of a pattern: an accepted list, its places and row starts, and k
pub record Ready (m n nonzeros : ℕ) (list places starts : List ℕ) (k : ℕ) : Type 0 where
  pub listed : Listed m n nonzeros list starts
  pub placed : Placed (pattern_of m n nonzeros list) places
  pub total : k ≡ line_total (pattern_of m n nonzeros list)
  pub few : k ≤ mark_room

-- those of the pattern that the code holds
abbrev pub ReadyIn : Matrix → List ℕ → List ℕ → ℕ → Type 0
ReadyIn matrix places starts k = Ready matrix.m matrix.n matrix.nonzeros matrix.list.now places starts k

-- a record whose markings have at most k marks
pub record Fits (k : ℕ) (r : Record) : Type 0 where
  pub trail_fits : length r.trail ≤ k
  pub best_fits : (τ : List ℕ) → r.best ≡ some τ → length τ ≤ k
