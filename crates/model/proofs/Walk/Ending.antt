-- The walk ends: it makes at most (3 ^ (k + 1) - 3) / 2 tries, at most as many as it is given, and all of these while it is not complete.
-- Assumes nothing.
use mathlib.Core.Bool.{Bool, true, false}
use mathlib.Core.Path.{◌≡◌, refl, sym, ◌∙◌, ap, subst}
use Prim.Native.Nat.{ℕ, zero, suc, ◌+◌, ◌*◌, ◌-◌, ◌/◌, ◌^◌, ◌≤◌}
use native.Mathlib.Omega.{arith}
use lib.ListN.{length}
use Rattle.model.specs.declared.Caps.{Caps}
use Rattle.model.specs.Walk.{Record, Rules, fresh, advance, is_empty, tried, improved, looks_at, try_once, step, walk}
use Rattle.counting.proofs.Joined.{no_way, clash}
use Rattle.model.proofs.Walk.Steps.{after, try_keeps, step_stays, step_tries, walk_keeps}
use Rattle.model.proofs.Walk.Left.{size, later, left, three_sizes, advance-length, gives_up_left, grows_left, some_left}

-- a record whose tries, with the markings left, are at most three sizes
pub record Paced (R : Rules) (r : Record) : Type 0 where
  pub within : length r.trail ≤ R.k
  pub ended : r.complete ≡ is_empty r.trail
  pub paid : r.tries + left R.k r.trail ≤ 3 * size R.k

-- a fresh record is paced
fresh_paced : (R : Rules) (m n nonzeros : ℕ) (caps : Caps) → Paced R (fresh m n nonzeros caps R.k)
unfolding fresh is_empty left later
fresh_paced R m n nonzeros caps = go R.k refl
  where
    go : (k : ℕ) → R.k ≡ k → Paced R (fresh m n nonzeros caps k)
    go zero e = record { within = omega arith; ended = refl; paid = omega arith }
    go (suc k) e =
        let whole : R.k - 0 ≡ R.k = omega arith in
        record { within = omega arith; ended = refl; paid = omega (arith, ap size whole) }

-- a try keeps a record paced
try_paced : (R : Rules) (r : Record) → r.complete ≡ false → Paced R r → Paced R (try_once R r)
unfolding tried improved
try_paced R r going p =
    try_keeps R r (λ s. Paced R s)
    (λ up room. record { within = room; ended = refl; paid = omega (arith, p.paid, grows_left R.k r.trail some_marks room) })
    (λ up long. record { within = passed.within; ended = refl; paid = passed.paid })
    (λ down. passed)
  where
    some_marks : is_empty r.trail ≡ false
    some_marks = sym p.ended ∙ going

    passed : Paced R (tried (looks_at R r.trail) r (advance R.one_first r.trail))
    passed =
        record {
          within = omega (arith, p.within, advance-length R.one_first r.trail);
          ended = refl;
          paid = omega (arith, p.paid, gives_up_left R.one_first R.k r.trail some_marks p.within);
        }

-- a walk from a fresh record is paced
pub walk_paced : (R : Rules) (m n nonzeros : ℕ) (caps : Caps) (tries : ℕ) → Paced R (after R m n nonzeros caps tries)
walk_paced R m n nonzeros caps tries =
    walk_keeps R (λ s. Paced R s) (λ r going p. try_paced R r going p) tries _ (fresh_paced R m n nonzeros caps)

-- a walk makes at most (3 ^ (k + 1) - 3) / 2 tries
pub tries_bound : (R : Rules) (m n nonzeros : ℕ) (caps : Caps) (tries : ℕ)
    → (after R m n nonzeros caps tries).tries ≤ (3 ^ (R.k + 1) - 3) / 2
tries_bound R m n nonzeros caps tries =
    omega (arith, (walk_paced R m n nonzeros caps tries).paid, three_sizes R.k)

-- each try counts
try_counts : (R : Rules) (r : Record) → (try_once R r).tries ≡ r.tries + 1
unfolding tried improved
try_counts R r = try_keeps R r (λ s. s.tries ≡ r.tries + 1) (λ up room. refl) (λ up long. refl) (λ down. refl)

-- a step makes at most one try
step_counts : (R : Rules) (r : Record) → (step R r).tries ≤ r.tries + 1
step_counts R r = go r.complete refl
  where
    go : (b : Bool) → r.complete ≡ b → (step R r).tries ≤ r.tries + 1
    go true done = rw (step_stays R r done) (omega arith)
    go false going = rw (step_tries R r going) (omega (arith, try_counts R r))

-- a step makes one try if the search is not complete after it, and it was not complete before
step_going : (R : Rules) (r : Record) → (step R r).complete ≡ false
    → (r.complete ≡ false) × ((step R r).tries ≡ r.tries + 1)
step_going R r after-going = go r.complete refl
  where
    go : (b : Bool) → r.complete ≡ b → (r.complete ≡ false) × ((step R r).tries ≡ r.tries + 1)
    go true done = clash done (sym (ap (λ (s : Record). s.complete) (step_stays R r done)) ∙ after-going)
    go false going = (going, ap (λ (s : Record). s.tries) (step_tries R r going) ∙ try_counts R r)

-- a walk makes at most as many tries as it is given
pub walk_counts : (R : Rules) (tries : ℕ) (r : Record) → (walk R tries r).tries ≤ r.tries + tries
unfolding walk
walk_counts R zero r = omega arith
walk_counts R (suc tries) r =
    omega (arith, step_counts R (walk R tries r), walk_counts R tries r)

-- a walk that is not complete has made all its tries
walk_going : (R : Rules) (tries : ℕ) (r : Record)
    → (walk R tries r).complete ≡ false → (walk R tries r).tries ≡ r.tries + tries
unfolding walk
walk_going R zero r going = omega arith
walk_going R (suc tries) r going =
    let now = step_going R (walk R tries r) going in
    omega (arith, now.1, walk_going R tries r now.0)

-- a fresh record has no tries
pub fresh_tries : (m n nonzeros : ℕ) (caps : Caps) (k : ℕ) → (fresh m n nonzeros caps k).tries ≡ 0
unfolding fresh
fresh_tries m n nonzeros caps zero = refl
fresh_tries m n nonzeros caps (suc k) = refl

-- a walk from a fresh record has at most the tries that it is given
pub tries_within : (R : Rules) (m n nonzeros : ℕ) (caps : Caps) (tries : ℕ) → (after R m n nonzeros caps tries).tries ≤ tries
tries_within R m n nonzeros caps tries =
    omega (arith, walk_counts R tries (fresh m n nonzeros caps R.k), fresh_tries m n nonzeros caps R.k)

-- it has all of them if it is not complete
pub tries_all : (R : Rules) (m n nonzeros : ℕ) (caps : Caps) (tries : ℕ)
    → (after R m n nonzeros caps tries).complete ≡ false → (after R m n nonzeros caps tries).tries ≡ tries
tries_all R m n nonzeros caps tries going =
    omega (arith, walk_going R tries (fresh m n nonzeros caps R.k) going, fresh_tries m n nonzeros caps R.k)

-- a paced record with all of its tries made is complete
paced_ends : (R : Rules) (r : Record) → Paced R r
    → (r.complete ≡ false → r.tries ≡ 3 * size R.k) → r.complete ≡ true
paced_ends R r p all = go r.complete refl
  where
    go : (b : Bool) → r.complete ≡ b → r.complete ≡ true
    go true done = done
    go false going =
        no_way (omega (arith, all going, p.paid, some_left R.one_first R.k r.trail (sym p.ended ∙ going) p.within))

-- a walk of (3 ^ (k + 1) - 3) / 2 tries is complete
pub ends : (R : Rules) (m n nonzeros : ℕ) (caps : Caps)
    → (after R m n nonzeros caps ((3 ^ (R.k + 1) - 3) / 2)).complete ≡ true
ends R m n nonzeros caps =
    subst (λ (tries : ℕ). (after R m n nonzeros caps tries).complete ≡ true) (three_sizes R.k)
    (paced_ends R _ (walk_paced R m n nonzeros caps (3 * size R.k)) (tries_all R m n nonzeros caps (3 * size R.k)))
