-- The trail of a walk is legal after every try, and its best marking is full.
-- Assumes nothing.
use mathlib.Core.Bool.{Bool, true, false}
use mathlib.Core.List.{List, [], ◌∷◌}
use mathlib.Core.Option.{Option, some, none}
use mathlib.Core.Path.{◌≡◌, refl, sym, ap}
use Prim.Native.Nat.{ℕ, zero, suc, ◌+◌, ◌≤◌, ◌<◌}
use native.Mathlib.Omega.{arith}
use lib.ListN.{length}
use Rattle.counting.specs.Tests.{◌and◌, ◌or◌, pick}
use Rattle.model.specs.declared.Caps.{Caps}
use Rattle.model.specs.Walk.{Record, Rules, fresh, one_allowed, after_zero, advance, cuts, is_empty, tried, improved, stands, try_once, walk}
use Rattle.model.specs.State.{are_marks, ones_allowed, beginnings_valid}
use Rattle.counting.proofs.Joined.{and_left, and_right, and_intro}
use Rattle.model.proofs.Walk.Sound.{Full}
use Rattle.model.proofs.Walk.Steps.{try_keeps, walk_keeps}

-- at most k legal marks, mark 1 only where it is allowed, and every proper beginning valid
pub record Legal (R : Rules) (τ : List ℕ) : Type 0 where
  pub within : length τ ≤ R.k
  pub marks : are_marks τ ≡ true
  pub allowed : ones_allowed R.one_first τ ≡ true
  pub before : beginnings_valid R τ ≡ true

-- no marks are legal
pub legal_empty : (R : Rules) → Legal R []
unfolding are_marks ones_allowed beginnings_valid
legal_empty R = record { within = omega arith; marks = refl; allowed = refl; before = refl }

-- without its last mark a legal marking is legal
pub legal_shorter : {R : Rules} {x : ℕ} {τ : List ℕ} → Legal R (x ∷ τ) → Legal R τ
unfolding are_marks ones_allowed beginnings_valid
legal_shorter {R} {x} {τ} l =
    record {
      within = omega arith;
      marks = and_right _ _ l.marks;
      allowed = and_right _ _ l.allowed;
      before = and_right _ _ l.before;
    }

-- the last mark of a legal marking may become cut
pub legal_cut : {R : Rules} {x : ℕ} {τ : List ℕ} → Legal R (x ∷ τ) → Legal R (2 ∷ τ)
unfolding are_marks ones_allowed beginnings_valid ◌and◌ ◌or◌
legal_cut l =
    record {
      within = l.within;
      marks = (legal_shorter l).marks;
      allowed = (legal_shorter l).allowed;
      before = l.before;
    }

-- the last mark of a legal marking may become 1 where that is allowed
pub legal_one : {R : Rules} {x : ℕ} {τ : List ℕ} → Legal R (x ∷ τ) → one_allowed R.one_first τ ≡ true → Legal R (1 ∷ τ)
unfolding are_marks ones_allowed beginnings_valid ◌and◌ ◌or◌
legal_one l may =
    record {
      within = l.within;
      marks = (legal_shorter l).marks;
      allowed = and_intro may (legal_shorter l).allowed;
      before = l.before;
    }

-- a valid legal marking with room for one more mark may be given mark 0
pub legal_longer : {R : Rules} {τ : List ℕ} → Legal R τ → R.valid τ ≡ true → length τ < R.k → Legal R (0 ∷ τ)
unfolding are_marks ones_allowed beginnings_valid ◌and◌ ◌or◌
legal_longer l fits room =
    record {
      within = room;
      marks = l.marks;
      allowed = l.allowed;
      before = and_intro fits l.before;
    }

-- a legal marking advances to a legal one
pub advance_legal : {R : Rules} (τ : List ℕ) → Legal R τ → Legal R (advance R.one_first τ)
unfolding advance after_zero pick
advance_legal [] l = l
advance_legal {R} (zero ∷ τ) l = go (one_allowed R.one_first τ) refl
  where
    go : (b : Bool) → one_allowed R.one_first τ ≡ b → Legal R (pick b 1 2 ∷ τ)
    go true may = legal_one l may
    go false denied = legal_cut l
advance_legal (suc zero ∷ τ) l = legal_cut l
advance_legal (suc (suc x) ∷ τ) l = advance_legal τ (legal_shorter l)

-- a best marking is full with this count of cut lines; without one the count is k + 1
abbrev pub BestIs : Rules → Option (List ℕ) → ℕ → Type 0
BestIs R (some τ) count = Full R τ × (cuts τ ≡ count)
BestIs R none count = count ≡ R.k + 1

-- a record with a legal trail, which is empty exactly if the search is complete, and with a best marking as it should be
pub record Orderly (R : Rules) (r : Record) : Type 0 where
  pub legal : Legal R r.trail
  pub ended : r.complete ≡ is_empty r.trail
  pub found : BestIs R r.best r.best_count

-- a legal marking of k marks that stands is full
pub legal_full : {R : Rules} {τ : List ℕ} → Legal R τ → R.valid τ ≡ true → R.k ≤ length τ → Full R τ
legal_full {R} {τ} l fits long =
    let w : length τ ≤ R.k = l.within in
    record { long = omega arith; marks = l.marks; allowed = l.allowed; fits = fits }

-- a fresh record is orderly
pub fresh_orderly : (R : Rules) (m n nonzeros : ℕ) (caps : Caps)
    → R.valid [] ≡ true → Orderly R (fresh m n nonzeros caps R.k)
unfolding fresh is_empty cuts are_marks ones_allowed
fresh_orderly R m n nonzeros caps fits = go R.k refl
  where
    go : (k : ℕ) → R.k ≡ k → Orderly R (fresh m n nonzeros caps k)
    go zero e =
        record {
          legal = legal_empty R;
          ended = refl;
          found = (record { long = sym e; marks = refl; allowed = refl; fits = fits }, refl);
        }
    go (suc k) e =
        record {
          legal = legal_longer (legal_empty R) fits (omega arith);
          ended = refl;
          found = ap (λ (j : ℕ). j + 1) (sym e);
        }

-- a try keeps a record orderly
pub try_orderly : (R : Rules) (r : Record) → Orderly R r → Orderly R (try_once R r)
unfolding tried improved stands
try_orderly R r o =
    try_keeps R r (λ s. Orderly R s)
    (λ up room. record { legal = legal_longer o.legal (and_left _ _ up) room; ended = refl; found = o.found })
    (λ up long. record { legal = advance_legal _ o.legal; ended = refl; found = (legal_full o.legal (and_left _ _ up) long, refl) })
    (λ down. record { legal = advance_legal _ o.legal; ended = refl; found = o.found })

-- every walk from a fresh record is orderly
pub walk_orderly : (R : Rules) (m n nonzeros : ℕ) (caps : Caps) (tries : ℕ)
    → R.valid [] ≡ true → Orderly R (walk R tries (fresh m n nonzeros caps R.k))
walk_orderly R m n nonzeros caps tries fits =
    walk_keeps R (λ s. Orderly R s) (λ r going o. try_orderly R r o) tries _
    (fresh_orderly R m n nonzeros caps fits)
