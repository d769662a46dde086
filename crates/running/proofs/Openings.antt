-- The open markings of a search one after another, each the one before it advanced, and the least bound over them.
-- Assumes nothing.
use mathlib.Core.Bool.{Bool, true, false}
use mathlib.Core.List.{List, [], ◌∷◌, ◌++◌}
use mathlib.Core.Path.{◌≡◌, refl, sym, ◌∙◌, ap}
use Prim.Native.Nat.{ℕ, zero, suc, ◌+◌, ◌-◌, ◌*◌, ◌≤◌, ◌<◌, min}
use native.Mathlib.Omega.{arith}
use lib.Dec.{leb}
use lib.ListN.{length}
use borrow.Author.Tests.{leb-true}
use Rattle.counting.specs.Tests.{pick}
use Rattle.counting.proofs.Joined.{clash, and_left, pick_true, pick-false}
use Rattle.model.specs.Walk.{Record, Rules, is_empty, one_allowed, after_zero, advance, put_later, beginnings_later, open_markings, least_bound, floor}
use Rattle.model.specs.State.{are_marks}

-- a trail and each beginning of it with its last mark put later; none of an empty trail
unfoldable pub opens : Bool → List ℕ → List (List ℕ)
opens first [] = []
opens first (x ∷ τ) = (x ∷ τ) ∷ beginnings_later first (x ∷ τ)

zero-next :
    (first one : Bool) (τ : List ℕ) →
    (pick one ((1 ∷ τ) ∷ []) [] ++ ((2 ∷ τ) ∷ [])) ++ beginnings_later first τ ≡ opens first (pick one 1 2 ∷ τ)
unfolding opens beginnings_later put_later pick
zero-next first true τ = refl
zero-next first false τ = refl

-- the beginnings put later are the open markings of the trail advanced
opens-next : (first : Bool) (τ : List ℕ) → beginnings_later first τ ≡ opens first (advance first τ)
unfolding opens beginnings_later put_later advance after_zero
opens-next first [] = refl
opens-next first (zero ∷ τ) = zero-next first (one_allowed first τ) τ
opens-next first (suc zero ∷ τ) = refl
opens-next first (suc (suc x) ∷ τ) = opens-next first τ

-- the floor is the least bound over them, where a complete search is one with an empty trail
opens_are : (first complete : Bool) (τ : List ℕ) → complete ≡ is_empty τ → pick complete [] (τ ∷ beginnings_later first τ) ≡ opens first τ
unfolding opens is_empty
opens_are first complete [] e = pick_true [] ([] ∷ beginnings_later first []) e
opens_are first complete (x ∷ τ) e = pick-false [] ((x ∷ τ) ∷ beginnings_later first (x ∷ τ)) e

pub floor-opens : (R : Rules) (r : Record) → r.complete ≡ is_empty r.trail → least_bound R r.best_count (opens R.one_first r.trail) ≡ floor R r
unfolding floor open_markings
floor-opens R r e = ap (least_bound R r.best_count) (sym (opens_are R.one_first r.complete r.trail e))

-- a number lowers the least before one marking more or after
lower_first : (b : Bool) (x y l k : ℕ) → k ≡ min x l → pick b (min y k) k ≡ min x (pick b (min y l) l)
unfolding pick
lower_first true x y l k e = omega arith
lower_first false x y l k e = e

-- a lower count lowers the least bound
least_min : (R : Rules) (x best : ℕ) (τs : List (List ℕ)) → least_bound R (min x best) τs ≡ min x (least_bound R best τs)
unfolding least_bound
least_min R x best [] = refl
least_min R x best (τ ∷ τs) =
    lower_first
    (R.valid τ)
    x
    (R.bound τ)
    (least_bound R best τs)
    (least_bound R (min x best) τs)
    (least_min R x best τs)

least_picked : (R : Rules) (b : Bool) (x best : ℕ) (τs : List (List ℕ))
    → pick b (min x (least_bound R best τs)) (least_bound R best τs) ≡ least_bound R (pick b (min x best) best) τs
unfolding pick
least_picked R true x best τs = sym (least_min R x best τs)
least_picked R false x best τs = refl

-- the first marking may be counted first
least_first : (R : Rules) (best : ℕ) (τ : List ℕ) (τs : List (List ℕ))
    → least_bound R best (τ ∷ τs) ≡ least_bound R (least_bound R best (τ ∷ [])) τs
unfolding least_bound
least_first R best τ τs = least_picked R (R.valid τ) (R.bound τ) best τs

-- the trail counted, and then the trail advanced
pub opens-counted :
    (R : Rules) (first : Bool) (best : ℕ) (τ : List ℕ) → is_empty τ ≡ false →
    least_bound R best (opens first τ) ≡ least_bound R (least_bound R best (τ ∷ [])) (opens first (advance first τ))
unfolding is_empty opens
opens-counted R first best [] e = clash refl e
opens-counted R first best (x ∷ τ) e =
    least_first R best (x ∷ τ) (beginnings_later first (x ∷ τ))
    ∙ ap (least_bound R (least_bound R best ((x ∷ τ) ∷ []))) (opens-next first (x ∷ τ))

-- of an empty trail nothing is counted
pub opens-none : (R : Rules) (first : Bool) (best : ℕ) (τ : List ℕ) → is_empty τ ≡ true → least_bound R best (opens first τ) ≡ best
unfolding is_empty opens least_bound
opens-none R first best [] e = refl
opens-none R first best (x ∷ τ) e = clash e refl

-- at most so many open markings: an advanced trail has fewer marks, or a later last one
unfoldable pub lateness : List ℕ → ℕ
lateness [] = 0
lateness (x ∷ τ) = 2 * length τ + 3 - x

pub late_none : (τ : List ℕ) → is_empty τ ≡ true → lateness τ ≡ 0
unfolding lateness is_empty
late_none [] e = refl
late_none (x ∷ τ) e = clash e refl

pub late_some : (τ : List ℕ) → are_marks τ ≡ true → is_empty τ ≡ false → 1 ≤ lateness τ
unfolding lateness are_marks is_empty
late_some [] marks e = clash refl e
late_some (x ∷ τ) marks e = omega (arith, leb-true x 2 (and_left (leb x 2) (are_marks τ) marks))

pub late_most : (τ : List ℕ) → lateness τ ≤ 2 * length τ + 1
unfolding lateness
late_most [] = omega arith
late_most (x ∷ τ) = omega arith

after_zero-some : (first : Bool) (τ : List ℕ) → 1 ≤ after_zero first τ
unfolding after_zero pick
after_zero-some first τ = go (one_allowed first τ)
  where
    go : (b : Bool) → 1 ≤ pick b 1 2
    go true = omega arith
    go false = omega arith

advance_most : (first : Bool) (τ : List ℕ) → lateness (advance first τ) ≤ 2 * length τ
unfolding lateness advance
advance_most first [] = omega arith
advance_most first (zero ∷ τ) = omega (arith, after_zero-some first τ)
advance_most first (suc zero ∷ τ) = omega arith
advance_most first (suc (suc x) ∷ τ) = omega (arith, advance_most first τ)

pub lateness-falls : (first : Bool) (τ : List ℕ) → are_marks τ ≡ true → is_empty τ ≡ false → lateness (advance first τ) < lateness τ
unfolding lateness advance are_marks is_empty
lateness-falls first [] marks e = clash refl e
lateness-falls first (zero ∷ τ) marks e = omega (arith, after_zero-some first τ)
lateness-falls first (suc zero ∷ τ) marks e = omega arith
lateness-falls first (suc (suc x) ∷ τ) marks e =
    omega (arith, advance_most first τ, leb-true (suc (suc x)) 2 (and_left (leb (suc (suc x)) 2) (are_marks τ) marks))
