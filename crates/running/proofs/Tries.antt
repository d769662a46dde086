-- Tries with so many marks for a full trail: the three outcomes of one, and what all of them keep.
-- Assumes nothing.
use mathlib.Core.Bool.{true, false}
use mathlib.Core.List.{◌∷◌}
use mathlib.Core.Path.{◌≡◌, refl, sym, ap, subst}
use Prim.Native.Nat.{ℕ, zero, suc, ◌+◌, ◌≤◌, ◌<◌}
use lib.Dec.{ltb}
use lib.ListN.{length}
use borrow.Author.Tests.{ltb-true, ltb-false}
use Rattle.counting.proofs.Joined.{by_test, pick_true, pick-false}
use Rattle.model.specs.Walk.{Record, Rules, advance, tried, looks_at, stands}
use Rattle.running.specs.Trying.{bettered, outcome_to, try_to, step_to, walk_to}

-- the three outcomes of a try: the trail grows,
pub try_grows :
    (R : Rules) (full : ℕ) (r : Record) → stands R r ≡ true → ltb (length r.trail) full ≡ true →
    tried (looks_at R r.trail) r (0 ∷ r.trail) ≡ try_to R full r
unfolding try_to outcome_to
try_grows R full r up short = λ i. outcome_to R (sym up i) (sym short i) r

-- it becomes the best marking,
pub try_betters :
    (R : Rules) (full : ℕ) (r : Record) → stands R r ≡ true → ltb (length r.trail) full ≡ false →
    tried (looks_at R r.trail) (bettered R r) (advance R.one_first r.trail) ≡ try_to R full r
unfolding try_to outcome_to
try_betters R full r up long = λ i. outcome_to R (sym up i) (sym long i) r

-- or it is given up
pub try_gives_up :
    (R : Rules) (full : ℕ) (r : Record) → stands R r ≡ false →
    tried (looks_at R r.trail) r (advance R.one_first r.trail) ≡ try_to R full r
unfolding try_to outcome_to
try_gives_up R full r down = λ i. outcome_to R (sym down i) (ltb (length r.trail) full) r

-- a fact that holds after each of them holds after a try
pub try_keeps :
    (R : Rules) (full : ℕ) (r : Record) (P : Record → Type 0) →
    (stands R r ≡ true → length r.trail < full → P (tried (looks_at R r.trail) r (0 ∷ r.trail))) →
    (stands R r ≡ true → full ≤ length r.trail → P (tried (looks_at R r.trail) (bettered R r) (advance R.one_first r.trail))) →
    (stands R r ≡ false → P (tried (looks_at R r.trail) r (advance R.one_first r.trail))) → P (try_to R full r)
try_keeps R full r P grows betters Gives-up =
    by_test
    (stands R r)
    (λ up.
    by_test
    (ltb (length r.trail) full)
    (λ short. subst P (try_grows R full r up short) (grows up (ltb-true _ _ short)))
    (λ long. subst P (try_betters R full r up long) (betters up (ltb-false _ _ long))))
    (λ down. subst P (try_gives_up R full r down) (Gives-up down))

-- a step on a complete search changes nothing, and on another it is a try
pub step_stays : (R : Rules) (full : ℕ) (r : Record) → r.complete ≡ true → step_to R full r ≡ r
unfolding step_to
step_stays R full r done = pick_true r (try_to R full r) done

pub step_tries : (R : Rules) (full : ℕ) (r : Record) → r.complete ≡ false → step_to R full r ≡ try_to R full r
unfolding step_to
step_tries R full r going = pick-false r (try_to R full r) going

-- a fact that each try keeps is kept by all of them
pub walk_keeps :
    (R : Rules) (full : ℕ) (P : Record → Type 0) → ((r : Record) → P r → P (try_to R full r)) →
    (n : ℕ) (r : Record) → P r → P (walk_to R full n r)
unfolding walk_to
walk_keeps R full P keeps zero r p = p
walk_keeps R full P keeps (suc n) r p =
    let s = walk_to R full n r in
    let q = walk_keeps R full P keeps n r p in
    by_test
    s.complete
    (λ done. subst P (sym (step_stays R full s done)) q)
    (λ going. subst P (sym (step_tries R full s going)) (keeps s q))

-- the first try may be told apart
pub walk_first : (R : Rules) (full n : ℕ) (r : Record) → walk_to R full (suc n) r ≡ walk_to R full n (step_to R full r)
unfolding walk_to
walk_first R full zero r = refl
walk_first R full (suc n) r = ap (step_to R full) (walk_first R full n r)

-- each try is counted
pub try_counts : (R : Rules) (full : ℕ) (r : Record) → (try_to R full r).tries ≡ r.tries + 1
unfolding tried bettered
try_counts R full r = try_keeps R full r (λ s. s.tries ≡ r.tries + 1) (λ up room. refl) (λ up long. refl) (λ down. refl)

-- m, n, the number of nonzeros and the caps of a record are another's
pub record SameSizes (r s : Record) : Type 0 where
  pub rows : s.m ≡ r.m
  pub columns : s.n ≡ r.n
  pub size : s.nonzeros ≡ r.nonzeros
  pub caps : s.caps ≡ r.caps

-- the tries keep them
pub walk_same : (R : Rules) (full i : ℕ) (r : Record) → SameSizes r (walk_to R full i r)
unfolding tried bettered
walk_same R full i r =
    walk_keeps R full (λ s. SameSizes r s)
    (λ s h. try_keeps R full s (λ t. SameSizes r t)
    (λ up room. record { rows = h.rows; columns = h.columns; size = h.size; caps = h.caps })
    (λ up long. record { rows = h.rows; columns = h.columns; size = h.size; caps = h.caps })
    (λ down. record { rows = h.rows; columns = h.columns; size = h.size; caps = h.caps }))
    i r (record { rows = refl; columns = refl; size = refl; caps = refl })
