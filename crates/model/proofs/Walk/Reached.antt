-- Every state that a walk reaches is one that is not refused.
-- Assumes nothing.
use mathlib.Core.Bool.{Bool, true, false, not}
use mathlib.Core.List.{List}
use mathlib.Core.Option.{Option, some, none}
use mathlib.Core.Path.{◌≡◌, refl, sym, ◌∙◌, ap}
use Prim.Native.Nat.{ℕ, zero, suc, ◌+◌, ◌*◌, ◌≤◌}
use native.Mathlib.Nat.{mul_assoc}
use native.Mathlib.Omega.{arith}
use lib.Dec.{leb}
use borrow.Author.Tests.{le-leb, eq-eqb}
use Rattle.model.specs.declared.Caps.{Caps}
use Rattle.model.specs.Limits.{tries_limit}
use Rattle.model.specs.Split.{caps_outside}
use Rattle.model.specs.Walk.{Record, Rules, fresh, is_empty, tried, improved, try_once}
use Rattle.model.specs.State.{trail_fine, best_fine, counts_fine, state_fine}
use Rattle.counting.proofs.Joined.{and_intro, never}
use Rattle.model.proofs.Walk.Sound.{Sound, empty_valid}
use Rattle.model.proofs.Walk.Steps.{after, try_keeps, walk_keeps}
use Rattle.model.proofs.Walk.Legal.{Legal, Orderly, BestIs, walk_orderly}
use Rattle.model.proofs.Walk.Looked.{Looked, LooksMost, reached-looked}
use Rattle.model.proofs.Walk.Exact.{Exact, complete_exact}

-- a record for this m, n, number of nonzeros and caps
pub record For (m n nonzeros : ℕ) (caps : Caps) (r : Record) : Type 0 where
  pub rows : r.m ≡ m
  pub columns : r.n ≡ n
  pub size : r.nonzeros ≡ nonzeros
  pub limits : r.caps ≡ caps

-- a fresh record is for what it is made of
fresh_for : (m n nonzeros : ℕ) (caps : Caps) (k : ℕ) → For m n nonzeros caps (fresh m n nonzeros caps k)
unfolding fresh
fresh_for m n nonzeros caps zero = record { rows = refl; columns = refl; size = refl; limits = refl }
fresh_for m n nonzeros caps (suc k) = record { rows = refl; columns = refl; size = refl; limits = refl }

-- a try keeps what the record is for
try_for : (R : Rules) {m n nonzeros : ℕ} {caps : Caps} (r : Record)
    → For m n nonzeros caps r → For m n nonzeros caps (try_once R r)
unfolding tried improved
try_for R {m} {n} {nonzeros} {caps} r h =
    try_keeps R r (λ s. For m n nonzeros caps s)
    (λ up room. record { rows = h.rows; columns = h.columns; size = h.size; limits = h.limits })
    (λ up long. record { rows = h.rows; columns = h.columns; size = h.size; limits = h.limits })
    (λ down. record { rows = h.rows; columns = h.columns; size = h.size; limits = h.limits })

-- a walk keeps m, n, the number of nonzeros and the caps
pub walk_for : (R : Rules) (m n nonzeros : ℕ) (caps : Caps) (tries : ℕ) → For m n nonzeros caps (after R m n nonzeros caps tries)
walk_for R m n nonzeros caps tries =
    walk_keeps R (λ s. For m n nonzeros caps s) (λ r going h. try_for R r h) tries _ (fresh_for m n nonzeros caps R.k)

-- a legal trail, empty exactly if complete, is fine
trail_fine_lem : (R : Rules) (complete : Bool) (τ : List ℕ) → Legal R τ → complete ≡ is_empty τ → trail_fine R complete τ ≡ true
unfolding trail_fine
trail_fine_lem R true τ l ended = sym ended
trail_fine_lem R false τ l ended =
    and_intro (and_intro (and_intro (and_intro (ap not (sym ended)) (le-leb _ _ l.within)) l.marks) l.allowed) l.before

-- a best marking as it should be is fine, if a complete search has one
best_fine_lem : (R : Rules) (o : Option (List ℕ)) (count : ℕ) (complete : Bool) → BestIs R o count
    → (o ≡ none → complete ≡ false) → best_fine R o count complete ≡ true
unfolding best_fine
best_fine_lem R (some τ) count complete b found =
    and_intro (and_intro (and_intro (eq-eqb _ _ b.0.long) b.0.marks) b.0.fits) (eq-eqb _ _ b.1)
best_fine_lem R none count complete b found = and_intro (eq-eqb _ _ b) (ap not (found refl))

-- an orderly record within the limits is not refused, if it has a best marking where it is complete
pub orderly_fine : {R : Rules} {m n nonzeros : ℕ} {caps : Caps} (r : Record) → For m n nonzeros caps r → Orderly R r
    → nonzeros ≤ caps.cap0 + caps.cap1 → caps_outside caps ≡ false → r.tries ≤ tries_limit → Looked (m * nonzeros) r → (r.best ≡ none → r.complete ≡ false)
    → state_fine R m n nonzeros r ≡ true
unfolding state_fine counts_fine
orderly_fine {R} {m} {n} {nonzeros} {caps} r h o enough small few looked found =
    and_intro
    (and_intro
    (and_intro
    (and_intro
    (and_intro
    (and_intro (and_intro (eq-eqb _ _ h.rows) (eq-eqb _ _ h.columns)) (eq-eqb _ _ h.size))
    (ap (λ (c : Caps). leb nonzeros (c.cap0 + c.cap1)) h.limits ∙ le-leb nonzeros (caps.cap0 + caps.cap1) enough))
    (ap (λ (c : Caps). not (caps_outside c)) h.limits ∙ ap not small))
    (and_intro
    (le-leb r.tries tries_limit few)
    (le-leb r.looks (r.tries * m * nonzeros) (omega (arith, looked.few, mul_assoc r.tries m nonzeros)))))
    (trail_fine_lem R r.complete r.trail o.legal o.ended))
    (best_fine_lem R r.best r.best_count r.complete o.found found)

-- an exact result has a best marking
exact_found : {R : Rules} {r : Record} {A : Type 0} → Exact R r → r.best ≡ none → A
exact_found {R} {r} e missing = never (cc e.best)

-- a walk without a best marking is not complete
pub none_going : {R : Rules} (m n nonzeros : ℕ) (caps : Caps) (tries : ℕ) → Sound R
    → (after R m n nonzeros caps tries).best ≡ none → (after R m n nonzeros caps tries).complete ≡ false
none_going {R} m n nonzeros caps tries S missing = go (after R m n nonzeros caps tries).complete refl
  where
    go : (b : Bool) → (after R m n nonzeros caps tries).complete ≡ b → (after R m n nonzeros caps tries).complete ≡ false
    go true done = exact_found (complete_exact m n nonzeros caps tries S done) missing
    go false going = going

-- a state that a walk reaches is not refused, within the limit on tries
pub reached_fine :
    {R : Rules} (m n nonzeros : ℕ) (caps : Caps) (tries : ℕ) →
    Sound R → LooksMost R (m * nonzeros) → nonzeros ≤ caps.cap0 + caps.cap1 → caps_outside caps ≡ false → (after R m n nonzeros caps tries).tries ≤ tries_limit →
    state_fine R m n nonzeros (after R m n nonzeros caps tries) ≡ true
reached_fine {R} m n nonzeros caps tries S looks enough small few =
    orderly_fine
    (after R m n nonzeros caps tries)
    (walk_for R m n nonzeros caps tries)
    (walk_orderly R m n nonzeros caps tries (empty_valid S))
    enough
    small
    few
    (reached-looked R looks m n nonzeros caps tries)
    (none_going m n nonzeros caps tries S)
