-- Open markings: what advance does to them, and that floor is at most the cut lines of what they begin.
-- Assumes nothing.
use mathlib.Core.Bool.{Bool, true, false, not}
use mathlib.Core.List.{List, [], ◌∷◌, ◌++◌}
use mathlib.Core.Path.{◌≡◌, refl}
use Prim.Native.Nat.{ℕ, zero, suc, ◌≤◌, ◌<◌, min}
use native.Mathlib.Omega.{arith}
use lib.Dec.{eqb, leb}
use lib.ListN.{length}
use borrow.Author.Tests.{leb-true}
use Rattle.counting.specs.Tests.{◌or◌, pick}
use Rattle.model.specs.Walk.{Rules, one_allowed, after_zero, advance, cuts, is_empty, put_later, beginnings_later, least_bound}
use Rattle.model.specs.State.{are_marks, ones_allowed}
use Rattle.counting.proofs.Joined.{and_left, and_right, no_way}
use Rattle.model.proofs.Walk.Sound.{Begins, whole, longer, begins_length, Full, Sound}

-- some marking of a list is a beginning of ν
pub data Among (ν : List ℕ) : List (List ℕ) → Type 0 where
  here : {τ : List ℕ} {τs : List (List ℕ)} → Begins τ ν → Among ν (τ ∷ τs)
  there : {τ : List ℕ} {τs : List (List ℕ)} → Among ν τs → Among ν (τ ∷ τs)

-- what is among a list is among a longer one
pub among_right : {ν : List ℕ} (τs : List (List ℕ)) {σs : List (List ℕ)} → Among ν σs → Among ν (τs ++ σs)
among_right [] a = a
among_right (τ ∷ τs) a = there (among_right τs a)

-- the open markings of a search with this trail, none if it is empty
unfoldable pub open_behind : Bool → List ℕ → List (List ℕ)
open_behind first τ = pick (is_empty τ) [] (τ ∷ beginnings_later first τ)

-- what comes later than a trail is what is open behind the advanced trail
pub advance-opens : (first : Bool) (τ : List ℕ) → beginnings_later first τ ≡ open_behind first (advance first τ)
unfolding advance after_zero pick beginnings_later put_later open_behind is_empty
advance-opens first [] = refl
advance-opens first (zero ∷ τ) = go (one_allowed first τ)
  where
    go : (b : Bool)
        → (pick b ((1 ∷ τ) ∷ []) [] ++ ((2 ∷ τ) ∷ [])) ++ beginnings_later first τ ≡ open_behind first (pick b 1 2 ∷ τ)
    go true = refl
    go false = refl
advance-opens first (suc zero ∷ τ) = refl
advance-opens first (suc (suc x) ∷ τ) = advance-opens first τ

-- what is among a list is among one that goes on
pub among_left : {ν : List ℕ} {τs : List (List ℕ)} (σs : List (List ℕ)) → Among ν τs → Among ν (τs ++ σs)
among_left σs (here b) = here b
among_left σs (there a) = there (among_left σs a)

-- what begins a marking begins every longer one
pub among_longer : {ν : List ℕ} {τs : List (List ℕ)} (x : ℕ) → Among ν τs → Among (x ∷ ν) τs
among_longer x (here b) = here (longer b)
among_longer x (there a) = there (among_longer x a)

-- a marking with one legal mark more is the one with mark 0, or that one put later
pub sibling : (first : Bool) (x : ℕ) (τ : List ℕ)
    → leb x 2 ≡ true → not (eqb x 1) or one_allowed first τ ≡ true → Among (x ∷ τ) ((0 ∷ τ) ∷ put_later first (0 ∷ τ))
unfolding put_later ◌or◌ pick
sibling first zero τ small allowed = here whole
sibling first (suc zero) τ small allowed = rw allowed (there (here whole))
sibling first (suc (suc zero)) τ small allowed =
    there (among_right (pick (one_allowed first τ) ((1 ∷ τ) ∷ []) []) (here whole))
sibling first (suc (suc (suc x))) τ small allowed = no_way (omega (arith, leb-true (suc (suc (suc x))) 2 small))

-- a legal marking that goes on behind τ goes on with one of the marks that τ may be given
pub next_mark_lem : (first : Bool) {τ ν : List ℕ} → Begins τ ν → length τ < length ν
    → are_marks ν ≡ true → ones_allowed first ν ≡ true → Among ν ((0 ∷ τ) ∷ put_later first (0 ∷ τ))
unfolding are_marks ones_allowed
next_mark_lem first whole more marks allowed = no_way (omega arith)
next_mark_lem first {τ} (longer {x} whole) more marks allowed =
    sibling first x τ (and_left _ _ marks) (and_left _ _ allowed)
next_mark_lem first (longer {x} (longer b)) more marks allowed =
    let l = begins_length b in
    among_longer x (next_mark_lem first (longer b) (omega arith) (and_right _ _ marks) (and_right _ _ allowed))

-- a legal marking that goes on behind τ is open behind τ with mark 0
pub grown-opens : (first : Bool) {τ ν : List ℕ} → Begins τ ν → length τ < length ν
    → are_marks ν ≡ true → ones_allowed first ν ≡ true → Among ν (open_behind first (0 ∷ τ))
unfolding open_behind is_empty pick beginnings_later
grown-opens first {τ} b more marks allowed = among_left (beginnings_later first τ) (next_mark_lem first b more marks allowed)

-- what comes later than τ is open behind τ with mark 0
pub later-opens : (first : Bool) (τ : List ℕ) {ν : List ℕ} → Among ν (beginnings_later first τ) → Among ν (open_behind first (0 ∷ τ))
unfolding open_behind is_empty pick beginnings_later
later-opens first τ a = there (among_right (put_later first (0 ∷ τ)) a)

-- one marking more lowers the least bound or keeps it
least_keeps : (b : Bool) (bound least : ℕ) → pick b (min bound least) least ≤ least
unfolding pick
least_keeps true bound least = omega arith
least_keeps false bound least = omega arith

-- the least bound is at most the count
pub least_count : (R : Rules) (best : ℕ) (τs : List (List ℕ)) → least_bound R best τs ≤ best
unfolding least_bound
least_count R best [] = omega arith
least_count R best (τ ∷ τs) =
    let rest = least_count R best τs in
    let one = least_keeps (R.valid τ) (R.bound τ) (least_bound R best τs) in
    omega arith

-- under a sound bound, the least bound is at most the cut lines of a full marking that a listed marking begins
pub least_among_lem : {R : Rules} {ν : List ℕ} {τs : List (List ℕ)} → Sound R → Full R ν
    → (best : ℕ) → Among ν τs → least_bound R best τs ≤ cuts ν
unfolding least_bound pick
least_among_lem {R} S f best (here {τ} {τs} b) =
    let s = S.beginning τ _ b f in
    rw s.0 (omega arith)
least_among_lem {R} S f best (there {τ} {τs} a) =
    let rest = least_among_lem S f best a in
    let one = least_keeps (R.valid τ) (R.bound τ) (least_bound R best τs) in
    omega arith
