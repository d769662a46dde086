-- Tries made on what is kept of the trail's marks but the last.
-- Assumes nothing.
use Rattle.std.specs.Prelude.{true, List, ◌∷◌, ◌≡◌, ℕ, ◌≤◌, ◌<◌, ltb, length}
use Rattle.counting.specs.Tests.{◌and◌, pick}
use Rattle.model.specs.declared.Caps.{Caps}
use Rattle.model.specs.Pattern.{Pattern, line_total}
use Rattle.model.specs.Marking.{marking}
use Rattle.model.specs.Walk.{Rules, rules_of, looks_at}
use Rattle.model.specs.State.{stack, are_marks, beginnings_valid}
use Rattle.model.proofs.Order.Places.{line_at}
use Rattle.pattern.specs.Matrix.{pattern_in}
use Rattle.running.specs.declared.kept.Kept.{Kept}
use Rattle.running.specs.declared.tables.Crossed.{Crossed}
use Rattle.running.specs.declared.tables.Tables.{Tables}
use Rattle.running.specs.declared.walking.Tried.{Tried}
use Rattle.running.specs.Kept.{Keeps, KeepsOn}

-- at most k legal marks, valid with every beginning
pub record Standing (R : Rules) (τ : List ℕ) : Type 0 where
  pub within : length τ ≤ R.k
  pub marks : are_marks τ ≡ true
  pub fits : R.valid τ ≡ true
  pub before : beginnings_valid R τ ≡ true

-- line l gets mark p behind the marks τ
pub record Next (P : Pattern) (caps : Caps) (τ : List ℕ) (l p : ℕ) : Type 0 where
  pub room : length τ < line_total P
  pub there : l ≡ line_at P (length τ)
  pub mark : p ≤ 2
  pub standing : Standing (rules_of P caps) τ

-- what a try with that mark answers, and what is kept after it: the mark too if it stands
pub record Attempted (P : Pattern) (caps : Caps) (τ : List ℕ) (p best : ℕ) (r : Tried) (kept : Kept) : Type 0 where
  pub stands_is : r.stands ≡ (rules_of P caps).valid (p ∷ τ) and ltb ((rules_of P caps).bound (p ∷ τ)) best
  pub least_is : r.stands ≡ true → r.least ≡ (rules_of P caps).bound (p ∷ τ)
  pub looks_is : r.looks ≡ looks_at (rules_of P caps) (p ∷ τ)
  pub holds : Keeps P (marking P (pick r.stands (p ∷ τ) τ)) kept

-- such a try can be made
pub record Attemptable (t : Crossed) (kept : Kept) (l p : ℕ) (caps : Caps) : Type 0 where
  pub τ : List ℕ
  pub next : Next (pattern_in t.matrix) caps τ l p
  pub holds : KeepsOn t (marking (pattern_in t.matrix) τ) kept

-- marks can be lifted, from so many on
pub record Liftable (t : Tables) (kept : Kept) (from : ℕ) : Type 0 where
  pub caps : Caps
  pub mark : ℕ → ℕ
  pub standing : Standing (rules_of (pattern_in t.crossed.matrix) caps) (stack mark from)
  pub holds : KeepsOn t.crossed (marking (pattern_in t.crossed.matrix) (stack mark from)) kept
