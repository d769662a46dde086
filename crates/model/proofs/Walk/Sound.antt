-- What a walk needs of its rules in order to be exact: beginnings, full markings, and sound bounds.
-- Assumes nothing.
use mathlib.Core.Bool.{Bool, true}
use mathlib.Core.List.{List, [], ◌∷◌}
use mathlib.Core.Path.{◌≡◌, refl}
use Prim.Native.Nat.{ℕ, zero, suc, ◌≤◌}
use native.Mathlib.Omega.{arith}
use lib.ListN.{length, replicate, length-replicate}
use Rattle.counting.specs.Tests.{◌and◌, ◌or◌, bit}
use Rattle.model.specs.Walk.{Rules, cuts}
use Rattle.model.specs.State.{are_marks, ones_allowed}
use Rattle.counting.proofs.Joined.{no_way}

-- τ is a beginning of ν
pub data Begins (τ : List ℕ) : List ℕ → Type 0 where
  whole : Begins τ τ
  longer : {x : ℕ} {ν : List ℕ} → Begins τ ν → Begins τ (x ∷ ν)

-- a full, valid, legal marking
pub record Full (R : Rules) (ν : List ℕ) : Type 0 where
  pub long : length ν ≡ R.k
  pub marks : are_marks ν ≡ true
  pub allowed : ones_allowed R.one_first ν ≡ true
  pub fits : R.valid ν ≡ true

-- a sound bound: a beginning of a full marking is valid, with a bound of at most the full marking's cut lines;
-- a full marking's own bound is at least its cut lines; the marking that cuts every line is valid
pub record Sound (R : Rules) : Type 0 where
  pub beginning : (τ ν : List ℕ) → Begins τ ν → Full R ν → (R.valid τ ≡ true) × (R.bound τ ≤ cuts ν)
  pub full : (ν : List ℕ) → Full R ν → cuts ν ≤ R.bound ν
  pub all_cut : R.valid (replicate R.k 2) ≡ true

-- the empty marking begins every marking
pub begins_empty : (ν : List ℕ) → Begins [] ν
begins_empty [] = whole
begins_empty (x ∷ ν) = longer (begins_empty ν)

-- a beginning is no longer than the marking
pub begins_length : {τ ν : List ℕ} → Begins τ ν → length τ ≤ length ν
begins_length whole = omega arith
begins_length (longer h) = let l = begins_length h in omega arith

-- a beginning as long as the marking is the marking
pub begins_same : {τ ν : List ℕ} → Begins τ ν → length ν ≤ length τ → τ ≡ ν
begins_same whole h = refl
begins_same (longer b) h = let l = begins_length b in no_way (omega arith)

-- the marking that cuts every line has legal marks
pub all_cut_marks : (k : ℕ) → are_marks (replicate k 2) ≡ true
unfolding are_marks ◌and◌
all_cut_marks zero = refl
all_cut_marks (suc k) = all_cut_marks k

-- it has no mark 1
pub all_cut_allowed : (first : Bool) (k : ℕ) → ones_allowed first (replicate k 2) ≡ true
unfolding ones_allowed ◌and◌ ◌or◌
all_cut_allowed first zero = refl
all_cut_allowed first (suc k) = all_cut_allowed first k

-- it cuts every line
pub all_cut_cuts : (k : ℕ) → cuts (replicate k 2) ≡ k
unfolding cuts bit
all_cut_cuts zero = refl
all_cut_cuts (suc k) = let l = all_cut_cuts k in omega arith

module _ {R : Rules} (S : Sound R) where
  -- the marking that cuts every line is full
  pub all_cut_full : Full R (replicate R.k 2)
  all_cut_full =
      record {
        long = length-replicate R.k 2;
        marks = all_cut_marks R.k;
        allowed = all_cut_allowed R.one_first R.k;
        fits = S.all_cut;
      }

  -- the empty marking is valid
  pub empty_valid : R.valid [] ≡ true
  empty_valid = (S.beginning [] (replicate R.k 2) (begins_empty _) all_cut_full).0
