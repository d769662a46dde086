-- The looks of a walk: at most so many for each try, so that their sum fits eight bytes; and they steer nothing.
-- Assumes nothing.
use mathlib.Core.Bool.{Bool, true, false}
use mathlib.Core.List.{List}
use mathlib.Core.Path.{◌≡◌, refl, sym, ◌∙◌, ap}
use Prim.Native.Nat.{ℕ, zero, suc, ◌+◌, ◌*◌, ◌^◌, ◌≤◌, ◌<◌}
use native.Mathlib.Nat.{add-mul, one-mul, mul-le-mul}
use native.Mathlib.Omega.{arith}
use lib.Dec.{ltb}
use lib.ListN.{length}
use Rattle.counting.specs.Tests.{pick}
use Rattle.counting.proofs.Joined.{by_test}
use Rattle.model.specs.declared.Caps.{Caps}
use Rattle.model.specs.Limits.{line_limit, nonzero_limit, tries_limit}
use Rattle.model.specs.Walk.{Record, Rules, fresh, tried, improved, looks_at, stands, outcome, try_once, step, walk}
use Rattle.model.proofs.Walk.Steps.{after, try_keeps, walk_keeps}

-- a record with at most so many looks for each of its tries
pub record Looked (most : ℕ) (r : Record) : Type 0 where
  pub few : r.looks ≤ r.tries * most

-- no trail of the rules has more looks
abbrev pub LooksMost : Rules → ℕ → Type 0
LooksMost R most = (τ : List ℕ) → R.looks τ ≤ most

-- nor has a try
pub try_looks : (R : Rules) {most : ℕ} → LooksMost R most → (τ : List ℕ) → looks_at R τ ≤ most
unfolding looks_at pick
try_looks R h τ = by_test (R.valid τ) (λ yes. rw yes (h τ)) (λ no. rw no (omega (arith, h τ)))

-- a fresh record has no looks
fresh-looks : (m n nonzeros : ℕ) (caps : Caps) (k : ℕ) → (fresh m n nonzeros caps k).looks ≡ 0
unfolding fresh
fresh-looks m n nonzeros caps zero = refl
fresh-looks m n nonzeros caps (suc k) = refl

module _ (R : Rules) {most : ℕ} (h : LooksMost R most) where
  one_more : (r : Record) → Looked most r → r.looks + looks_at R r.trail ≤ (r.tries + 1) * most
  one_more r l = omega (arith, l.few, try_looks R h r.trail, add-mul r.tries 1 most, one-mul most)

  -- a try keeps looks to so many
  try_looked : (r : Record) → Looked most r → Looked most (try_once R r)
  unfolding tried improved
  try_looked r l =
      try_keeps R r (λ s. Looked most s)
      (λ up room. record { few = one_more r l })
      (λ up long. record { few = one_more r l })
      (λ down. record { few = one_more r l })

  -- and so does a walk
  pub walk-looked : (tries : ℕ) (r : Record) → Looked most r → Looked most (walk R tries r)
  walk-looked tries r l = walk_keeps R (λ s. Looked most s) (λ s going k. try_looked s k) tries r l

  -- from a fresh record
  pub reached-looked : (m n nonzeros : ℕ) (caps : Caps) (tries : ℕ) → Looked most (after R m n nonzeros caps tries)
  reached-looked m n nonzeros caps tries =
      walk-looked tries _ (record { few = omega (arith, fresh-looks m n nonzeros caps R.k) })

-- within the limits such a sum fits eight bytes
pub looks_fit :
    (looks tries m nonzeros : ℕ) → looks ≤ tries * m * nonzeros → tries ≤ tries_limit → m ≤ line_limit → nonzeros ≤ nonzero_limit →
    looks < 2 ^ 64
looks_fit looks tries m nonzeros h t r s = omega (arith, mul-le-mul (mul-le-mul t r) s)

-- a record with its looks left out, and rules with other looks
abbrev pub lookless : Record → Record
lookless r =
    record {
      m = r.m;
      n = r.n;
      nonzeros = r.nonzeros;
      caps = r.caps;
      tries = r.tries;
      looks = 0;
      best_count = r.best_count;
      best = r.best;
      complete = r.complete;
      trail = r.trail;
    }

abbrev pub looking_by : Rules → (List ℕ → ℕ) → Rules
looking_by R looks = record { k = R.k; one_first = R.one_first; valid = R.valid; bound = R.bound; looks = looks }

module _ (R : Rules) (looks : List ℕ → ℕ) where
  outcome_same : (up shorter : Bool) (r : Record) → lookless (outcome R up shorter r) ≡ lookless (outcome (looking_by R looks) up shorter (lookless r))
  unfolding outcome tried improved
  outcome_same true true r = refl
  outcome_same true false r = refl
  outcome_same false shorter r = refl

  step_same : (r : Record) → lookless (step R r) ≡ lookless (step (looking_by R looks) (lookless r))
  unfolding step try_once stands pick
  step_same r = go r.complete
    where
      go : (b : Bool) → lookless (pick b r (try_once R r)) ≡ lookless (pick b (lookless r) (try_once (looking_by R looks) (lookless r)))
      go true = refl
      go false = outcome_same (stands R r) (ltb (length r.trail) R.k) r

-- looks steer nothing: with other looks all else of a walk is the same
pub looks_steer_nothing : (R : Rules) (looks : List ℕ → ℕ) (tries : ℕ) (r : Record) → lookless (walk R tries r) ≡ lookless (walk (looking_by R looks) tries r)
unfolding walk
looks_steer_nothing R looks zero r = refl
looks_steer_nothing R looks (suc tries) r =
    step_same R looks (walk R tries r)
    ∙ ap (λ (s : Record). lookless (step (looking_by R looks) s)) (looks_steer_nothing R looks tries r)
    ∙ sym (step_same (looking_by R looks) looks (walk (looking_by R looks) tries r))
