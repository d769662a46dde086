-- Document 01's walk as it stands there, with the looks of document 02's request 6: one cap for both parts, and mark 1 only where some earlier
-- mark is 0 or 1. With equal caps the walk is this one.
-- Assumes nothing.
use Rattle.std.specs.Prelude.{Bool, true, false, not, List, [], ◌∷◌, ℕ, zero, suc, ◌+◌, ◌-◌, max, ltb, leb, length}
use Rattle.counting.specs.Tests.{◌and◌, pick}
use Rattle.counting.specs.Sums.{any}
use Rattle.model.specs.declared.Part.{Part}
use Rattle.model.specs.declared.Part.TheVariants.{Zero, One}
use Rattle.model.specs.declared.Mark.TheVariants.{To, Cut}
use Rattle.model.specs.Pattern.{Pattern, line_total}
use Rattle.model.specs.Split.{both_caps}
use Rattle.model.specs.Marking.{Marking, mark_number, marking, takes, taken}
use Rattle.model.specs.Bound.{L1, L2, L4, at_stake, leaning_counts, strikes}
use Rattle.model.specs.Matching.{looks}
use Rattle.model.specs.Walk.{Record, fresh_of, gives_part, tried, improved}

-- valid: no nonzero is taken by both, and D0, D1 are at most the cap
unfoldable pub valid_under : Pattern → ℕ → Marking → Bool
valid_under P cap μ =
    not (any (λ t. takes P μ Zero t and takes P μ One t) P.size)
    and leb (taken P μ Zero) cap
    and leb (taken P μ One) cap

-- the number struck for p, until s is at most cap - Dp
unfoldable pub struck_under : Pattern → ℕ → Marking → Part → ℕ
struck_under P cap μ p = strikes (leaning_counts P μ p) (at_stake P μ p) (cap - taken P μ p)

-- bound: L1 + L2 + the larger of L3 and L4
unfoldable pub bound_under : Pattern → ℕ → Marking → ℕ
bound_under P cap μ = L1 P μ + L2 P μ + max (struck_under P cap μ Zero + struck_under P cap μ One) (L4 P μ)

-- the trail stands if it is valid and its bound is below the best count
unfoldable pub stands_under : Pattern → ℕ → Record → Bool
stands_under P cap r =
    valid_under P cap (marking P r.trail) and ltb (bound_under P cap (marking P r.trail)) r.best_count

-- advance: last mark 0 becomes 1 if some earlier mark is 0 or 1, else cut; 1 becomes cut; cut is dropped and the mark before it advances
unfoldable pub advance_under : List ℕ → List ℕ
advance_under [] = []
advance_under (zero ∷ xs) = pick (gives_part xs) (mark_number (To One)) (mark_number Cut) ∷ xs
advance_under (suc zero ∷ xs) = mark_number Cut ∷ xs
advance_under (suc (suc x) ∷ xs) = advance_under xs

-- the looks of a try: those of its trail's bound if it is valid
unfoldable pub looks_under : Pattern → ℕ → Record → ℕ
looks_under P cap r = pick (valid_under P cap (marking P r.trail)) (looks P (marking P r.trail)) 0

-- one try with so many looks: stands, shorter than k: append 0; stands, of length k: it becomes the best marking, then advance; otherwise: advance
unfoldable pub outcome_under : ℕ → Bool → Bool → Record → Record
outcome_under looks true true r = tried looks r (mark_number (To Zero) ∷ r.trail)
outcome_under looks true false r = tried looks (improved r) (advance_under r.trail)
outcome_under looks false shorter r = tried looks r (advance_under r.trail)

-- one try, or none on a complete search
unfoldable pub step_under : Pattern → ℕ → Record → Record
step_under P cap r =
    pick
    r.complete
    r
    (outcome_under (looks_under P cap r) (stands_under P cap r) (ltb (length r.trail) (line_total P)) r)

-- the walk after n tries from a fresh search
unfoldable pub walked_under : Pattern → ℕ → ℕ → Record
walked_under P cap zero = fresh_of P (both_caps cap)
walked_under P cap (suc n) = step_under P cap (walked_under P cap n)
