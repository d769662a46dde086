-- At every point of a walk each full marking is settled: it has at least the best count of cut lines, or is still open.
-- Assumes nothing.
use mathlib.Core.Bool.{Bool, true, false}
use mathlib.Core.List.{List, [], ◌∷◌}
use mathlib.Core.Logic.{◌⊎◌, inl, inr}
use mathlib.Core.Path.{◌≡◌, refl, ap}
use Prim.Native.Nat.{ℕ, zero, suc, ◌≤◌, ◌<◌}
use native.Mathlib.Omega.{arith}
use lib.ListN.{length}
use borrow.Author.Tests.{ltb-true, ltb-false}
use Rattle.counting.specs.Tests.{pick}
use Rattle.model.specs.declared.Caps.{Caps}
use Rattle.model.specs.Walk.{Record, Rules, fresh, advance, cuts, is_empty, tried, improved, stands, try_once, walk, beginnings_later, open_markings}
use Rattle.counting.proofs.Joined.{and_left, and_right, and-other}
use Rattle.model.proofs.Walk.Sound.{Begins, begins_empty, begins_same, Full, Sound, empty_valid}
use Rattle.model.proofs.Walk.Steps.{try_keeps, walk_keeps}
use Rattle.model.proofs.Walk.Legal.{Orderly, legal_full, fresh_orderly, try_orderly}
use Rattle.model.proofs.Walk.Open.{Among, here, there, open_behind, advance-opens, grown-opens, later-opens}

-- ν has at least this count of cut lines, or is still open: one of these open markings begins it
abbrev pub Settled : ℕ → List (List ℕ) → List ℕ → Type 0
Settled count opened ν = (count ≤ cuts ν) ⊎ Among ν opened

-- an orderly record by which every full marking is settled
pub record Covers (R : Rules) (r : Record) : Type 0 where
  pub orderly : Orderly R r
  pub settled : (ν : List ℕ) → Full R ν → Settled r.best_count (open_markings R r) ν

-- the open markings of a search that is not complete
open_going : (R : Rules) (r : Record) → r.complete ≡ false → open_markings R r ≡ r.trail ∷ beginnings_later R.one_first r.trail
unfolding open_markings pick
open_going R r going = rw going refl

-- the open markings of a complete search
pub open_done : (R : Rules) (r : Record) → r.complete ≡ true → open_markings R r ≡ []
unfolding open_markings pick
open_done R r done = rw done refl

-- what is settled stays settled where the trail grows
grown-settles : {R : Rules} (count : ℕ) (τ : List ℕ) {ν : List ℕ} → Full R ν → length τ < R.k
    → Settled count (τ ∷ beginnings_later R.one_first τ) ν → Settled count (open_behind R.one_first (0 ∷ τ)) ν
grown-settles {R} count τ f room (inl h) = inl h
grown-settles {R} count τ f room (inr (here b)) = inr (grown-opens R.one_first b (omega (arith, f.long)) f.marks f.allowed)
grown-settles {R} count τ f room (inr (there a)) = inr (later-opens R.one_first τ a)

-- what is settled stays settled where the trail advances, if a lower count settles what the trail begins
passed_settles : (first : Bool) {count lower : ℕ} (τ : List ℕ) {ν : List ℕ} → lower ≤ count → (Begins τ ν → lower ≤ cuts ν)
    → Settled count (τ ∷ beginnings_later first τ) ν → Settled lower (open_behind first (advance first τ)) ν
passed_settles first τ down h (inl p) = inl (omega arith)
passed_settles first τ down h (inr (here b)) = inl (h b)
passed_settles first τ down h (inr (there a)) = inr (rw (← advance-opens first τ) a)

-- a full marking that the trail begins has at least the best count of cut lines if the trail does not stand
given_up : {R : Rules} (r : Record) {ν : List ℕ} → Sound R → Full R ν
    → stands R r ≡ false → Begins r.trail ν → r.best_count ≤ cuts ν
unfolding stands
given_up {R} r {ν} S f down b =
    let s = S.beginning r.trail ν b f in
    let high : r.best_count ≤ R.bound r.trail = ltb-false _ _ (and-other _ _ down s.0) in
    omega arith

-- a full marking that stands has fewer cut lines than the best count
betters : {R : Rules} (r : Record) → Sound R → Full R r.trail → stands R r ≡ true → cuts r.trail ≤ r.best_count
unfolding stands
betters {R} r S f up =
    let low : R.bound r.trail < r.best_count = ltb-true _ _ (and_right _ _ up) in
    let own = S.full r.trail f in
    omega arith

-- a full marking that a full marking begins is the same, with as many cut lines
same_cuts : {R : Rules} {τ ν : List ℕ} → Full R τ → Full R ν → Begins τ ν → cuts τ ≤ cuts ν
same_cuts {R} {τ} {ν} f g b =
    let same : τ ≡ ν = begins_same b (omega (arith, f.long, g.long)) in
    omega (arith, ap cuts same)

-- a fresh record covers every full marking
fresh_covers : {R : Rules} (m n nonzeros : ℕ) (caps : Caps) → Sound R → Covers R (fresh m n nonzeros caps R.k)
unfolding fresh open_markings pick open_behind is_empty
fresh_covers {R} m n nonzeros caps S =
    record { orderly = fresh_orderly R m n nonzeros caps (empty_valid S); settled = go R.k refl }
  where
    go : (k : ℕ) → R.k ≡ k → (ν : List ℕ) → Full R ν
        → Settled (fresh m n nonzeros caps k).best_count (open_markings R (fresh m n nonzeros caps k)) ν
    go zero e ν f = inl (omega arith)
    go (suc k) e ν f =
        let long : length ν ≡ R.k = f.long in
        inr (grown-opens R.one_first (begins_empty ν) (omega arith) f.marks f.allowed)

-- after a try every full marking is settled
try_settles : {R : Rules} → Sound R → (r : Record) → r.complete ≡ false → Covers R r
    → (ν : List ℕ) → Full R ν → Settled (try_once R r).best_count (open_markings R (try_once R r)) ν
unfolding tried improved stands open_markings open_behind
try_settles {R} S r going c ν f =
    try_keeps R r (λ s. Settled s.best_count (open_markings R s) ν)
    (λ up room. grown-settles r.best_count r.trail f room now)
    (λ up long.
    let g : Full R r.trail = legal_full c.orderly.legal (and_left _ _ up) long in
    passed_settles R.one_first r.trail (betters r S g up) (same_cuts g f) now)
    (λ down. passed_settles R.one_first r.trail (omega arith) (given_up r S f down) now)
  where
    now : Settled r.best_count (r.trail ∷ beginnings_later R.one_first r.trail) ν
    now = rw (open_going R r going) at (c.settled ν f)

-- a walk from a fresh record covers every full marking
pub walk_covers : {R : Rules} → Sound R → (m n nonzeros : ℕ) (caps : Caps) (tries : ℕ)
    → Covers R (walk R tries (fresh m n nonzeros caps R.k))
walk_covers {R} S m n nonzeros caps tries =
    walk_keeps R (λ s. Covers R s)
    (λ r going c. record { orderly = try_orderly R r c.orderly; settled = try_settles S r going c })
    tries _
    (fresh_covers m n nonzeros caps S)
