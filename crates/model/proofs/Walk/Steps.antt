-- How a fact is carried through a try and through a walk, and how two walks join.
-- Assumes nothing.
use mathlib.Core.Bool.{Bool, true, false}
use mathlib.Core.List.{◌∷◌}
use mathlib.Core.Path.{◌≡◌, refl, ◌∙◌, ap}
use Prim.Native.Nat.{ℕ, zero, suc, ◌+◌, ◌≤◌, ◌<◌}
use native.Mathlib.Nat.{add-zero, add-suc}
use lib.Dec.{ltb}
use lib.ListN.{length}
use borrow.Author.Tests.{ltb-true, ltb-false}
use Rattle.counting.specs.Tests.{pick}
use Rattle.model.specs.declared.Caps.{Caps}
use Rattle.model.specs.Walk.{Record, Rules, fresh, advance, tried, improved, looks_at, stands, outcome, try_once, step, walk}

-- the walk from a fresh record after so many tries
abbrev pub after : Rules → ℕ → ℕ → ℕ → Caps → ℕ → Record
after R m n nonzeros caps tries = walk R tries (fresh m n nonzeros caps R.k)

-- a fact that holds after each of a try's three outcomes: the trail grows, becomes the best marking, or is given up
pub try_keeps : (R : Rules) (r : Record) (P : Record → Type 0)
    → (stands R r ≡ true → length r.trail < R.k → P (tried (looks_at R r.trail) r (0 ∷ r.trail)))
    → (stands R r ≡ true → R.k ≤ length r.trail → P (tried (looks_at R r.trail) (improved r) (advance R.one_first r.trail)))
    → (stands R r ≡ false → P (tried (looks_at R r.trail) r (advance R.one_first r.trail)))
    → P (try_once R r)
unfolding try_once outcome
try_keeps R r P grows betters Gives-up =
    go (stands R r) (ltb (length r.trail) R.k) refl refl
  where
    go : (b c : Bool) → stands R r ≡ b → ltb (length r.trail) R.k ≡ c → P (outcome R b c r)
    go true true p q = grows p (ltb-true _ _ q)
    go true false p q = betters p (ltb-false _ _ q)
    go false c p q = Gives-up p

-- a step on a complete search changes nothing
pub step_stays : (R : Rules) (r : Record) → r.complete ≡ true → step R r ≡ r
unfolding step pick
step_stays R r done = rw done refl

-- a step on a search that is not complete is a try
pub step_tries : (R : Rules) (r : Record) → r.complete ≡ false → step R r ≡ try_once R r
unfolding step pick
step_tries R r going = rw going refl

-- a fact that each try keeps, a step keeps
pub step_keeps : (R : Rules) (P : Record → Type 0)
    → ((r : Record) → r.complete ≡ false → P r → P (try_once R r))
    → (r : Record) → P r → P (step R r)
step_keeps R P keeps r p = go r.complete refl
  where
    go : (b : Bool) → r.complete ≡ b → P (step R r)
    go true done = rw (step_stays R r done) p
    go false going = rw (step_tries R r going) (keeps r going p)

-- a fact that each try keeps, a walk keeps
pub walk_keeps : (R : Rules) (P : Record → Type 0)
    → ((r : Record) → r.complete ≡ false → P r → P (try_once R r))
    → (tries : ℕ) (r : Record) → P r → P (walk R tries r)
unfolding walk
walk_keeps R P keeps zero r p = p
walk_keeps R P keeps (suc tries) r p =
    step_keeps R P keeps (walk R tries r) (walk_keeps R P keeps tries r p)

-- a walk of a + b tries is a walk of b tries behind one of a tries
pub walk_adds : (R : Rules) (a b : ℕ) (r : Record) → walk R (a + b) r ≡ walk R b (walk R a r)
unfolding walk
walk_adds R a zero r = rw add-zero refl
walk_adds R a (suc b) r = rw add-suc (ap (step R) (walk_adds R a b r))

-- a walk from a complete search changes nothing
pub complete_stays : (R : Rules) (b : ℕ) (r : Record) → r.complete ≡ true → walk R b r ≡ r
unfolding walk
complete_stays R zero r done = refl
complete_stays R (suc b) r done = ap (step R) (complete_stays R b r done) ∙ step_stays R r done
