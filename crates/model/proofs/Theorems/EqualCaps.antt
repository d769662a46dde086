-- With equal caps the walk is document 01's as it stands there, after every number of tries.
-- Assumes nothing.
use mathlib.Core.Bool.{Bool, true, false, not}
use mathlib.Core.List.{List, [], ◌∷◌}
use mathlib.Core.Path.{◌≡◌, refl, ◌∙◌, ap}
use Prim.Native.Nat.{ℕ, zero, suc}
use lib.Dec.{ltb}
use lib.ListN.{length}
use borrow.Author.Tests.{eq-eqb}
use Rattle.counting.specs.Tests.{◌or◌, pick}
use Rattle.model.specs.Pattern.{Pattern, line_total}
use Rattle.model.specs.Split.{both_caps, unequal}
use Rattle.model.specs.Marking.{valid}
use Rattle.model.specs.Bound.{struck, L3, bound}
use Rattle.model.specs.Walk.{Record, rules_of, gives_part, one_allowed, after_zero, advance, tried, improved, looks_at, stands, outcome, try_once, step, walk, walked}
use Rattle.model.specs.OneCap.{valid_under, struck_under, bound_under, stands_under, advance_under, looks_under, outcome_under, step_under, walked_under}

-- equal caps are not unequal
equal_not : (cap : ℕ) → unequal (both_caps cap) ≡ false
unfolding unequal
equal_not cap = ap not (eq-eqb cap cap refl)

-- so mark 1 is allowed exactly where some earlier mark is 0 or 1: in advance, open markings and state check alike
pub equal_allowed : (cap : ℕ) (earlier : List ℕ) → one_allowed (unequal (both_caps cap)) earlier ≡ gives_part earlier
unfolding one_allowed ◌or◌
equal_allowed cap earlier = ap (λ (first : Bool). first or gives_part earlier) (equal_not cap)

-- advance where mark 1 may not come first
advance_same : (τ : List ℕ) → advance false τ ≡ advance_under τ
unfolding advance after_zero one_allowed advance_under ◌or◌
advance_same [] = refl
advance_same (zero ∷ τ) = refl
advance_same (suc zero ∷ τ) = refl
advance_same (suc (suc x) ∷ τ) = advance_same τ

module _ (P : Pattern) (cap : ℕ) where
  advance_equal : (τ : List ℕ) → advance (rules_of P (both_caps cap)).one_first τ ≡ advance_under τ
  unfolding rules_of
  advance_equal τ = ap (λ (first : Bool). advance first τ) (equal_not cap) ∙ advance_same τ

  outcome_same :
      (up shorter : Bool) (r : Record) → outcome (rules_of P (both_caps cap)) up shorter r ≡ outcome_under (looks_under P cap r) up shorter r
  unfolding outcome outcome_under rules_of looks_at looks_under valid valid_under
  outcome_same true true r = refl
  outcome_same true false r = ap (tried (looks_under P cap r) (improved r)) (advance_equal r.trail)
  outcome_same false shorter r = ap (tried (looks_under P cap r) r) (advance_equal r.trail)

  step_same : (r : Record) → step (rules_of P (both_caps cap)) r ≡ step_under P cap r
  unfolding step try_once stands rules_of step_under stands_under valid_under bound_under struck_under valid bound L3 struck
  step_same r =
      ap
      (pick r.complete r)
      (outcome_same (stands_under P cap r) (ltb (length r.trail) (line_total P)) r)

  pub equal_walk : (tries : ℕ) → walked P (both_caps cap) tries ≡ walked_under P cap tries
  unfolding walked walk walked_under
  equal_walk zero = refl
  equal_walk (suc tries) = step_same (walked P (both_caps cap) tries) ∙ ap (step_under P cap) (equal_walk tries)
