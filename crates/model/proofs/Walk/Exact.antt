-- The walk is exact: its floor is never too high, its best marking is full, and a complete walk has found the least count of cut lines.
-- Assumes nothing.
use mathlib.Core.Bool.{Bool, true}
use mathlib.Core.List.{List, []}
use mathlib.Core.Logic.{inl, inr}
use mathlib.Core.Option.{Option, some, none}
use mathlib.Core.Path.{◌≡◌, refl, sym, ◌∙◌, ap, subst}
use Prim.Native.Nat.{ℕ, ◌+◌, ◌≤◌}
use native.Mathlib.Omega.{arith}
use lib.ListN.{replicate}
use Rattle.model.specs.declared.Caps.{Caps}
use Rattle.model.specs.Walk.{Record, Rules, cuts, open_markings, least_bound, floor}
use Rattle.model.specs.State.{ones_allowed}
use Rattle.counting.proofs.Joined.{no_way}
use Rattle.model.proofs.Walk.Sound.{Full, Sound, all_cut_full, all_cut_cuts}
use Rattle.model.proofs.Walk.Steps.{after}
use Rattle.model.proofs.Walk.Legal.{BestIs, walk_orderly}
use Rattle.model.proofs.Walk.Open.{least_count, least_among_lem}
use Rattle.model.proofs.Walk.Covers.{Settled, Covers, open_done, walk_covers}

-- the floor is at most the count, and at most the cut lines of a full marking that is open
floor_settled : {R : Rules} {ν : List ℕ} (r : Record) → Sound R → Full R ν
    → Settled r.best_count (open_markings R r) ν → floor R r ≤ cuts ν
unfolding floor
floor_settled {R} r S f (inl h) = let low = least_count R r.best_count (open_markings R r) in omega arith
floor_settled r S f (inr a) = least_among_lem S f r.best_count a

-- the floor is at most the cut lines of every full marking
pub floor_sound : {R : Rules} {ν : List ℕ} (m n nonzeros : ℕ) (caps : Caps) (tries : ℕ)
    → Sound R → Full R ν → floor R (after R m n nonzeros caps tries) ≤ cuts ν
floor_sound {R} {ν} m n nonzeros caps tries S f =
    floor_settled (after R m n nonzeros caps tries) S f ((walk_covers S m n nonzeros caps tries).settled ν f)

-- the best marking is full and has best count cut lines
pub best_is : (R : Rules) (m n nonzeros : ℕ) (caps : Caps) (tries : ℕ) (τ : List ℕ) → R.valid [] ≡ true
    → (after R m n nonzeros caps tries).best ≡ some τ
    → Full R τ × (cuts τ ≡ (after R m n nonzeros caps tries).best_count)
best_is R m n nonzeros caps tries τ fits e =
    subst (λ (o : Option (List ℕ)). BestIs R o (after R m n nonzeros caps tries).best_count) e
    (walk_orderly R m n nonzeros caps tries fits).found

-- without a best marking the best count is k + 1
pub best_none : (R : Rules) (m n nonzeros : ℕ) (caps : Caps) (tries : ℕ) → R.valid [] ≡ true
    → (after R m n nonzeros caps tries).best ≡ none
    → (after R m n nonzeros caps tries).best_count ≡ R.k + 1
best_none R m n nonzeros caps tries fits e =
    subst (λ (o : Option (List ℕ)). BestIs R o (after R m n nonzeros caps tries).best_count) e
    (walk_orderly R m n nonzeros caps tries fits).found

-- an exact result: a best marking, full, with best count cut lines; the floor is the best count; no full marking has fewer cut lines
pub record Exact (R : Rules) (r : Record) : Type 0 where
  pub marking : List ℕ
  pub best : r.best ≡ some marking
  pub full : Full R marking
  pub count : cuts marking ≡ r.best_count
  pub closed : floor R r ≡ r.best_count
  pub least : (ν : List ℕ) → Full R ν → r.best_count ≤ cuts ν

-- with nothing open, what is settled has at least the count of cut lines
settled_closed : {count : ℕ} {ν : List ℕ} → Settled count [] ν → count ≤ cuts ν
settled_closed (inl h) = h
settled_closed {count = count} {ν = ν} (inr x') = elim x' [ ]

-- a complete record that covers every full marking is exact
covers_exact : {R : Rules} (r : Record) → Sound R → Covers R r → r.complete ≡ true → Exact R r
unfolding floor least_bound
covers_exact {R} r S c done = go r.best refl c.orderly.found
  where
    lowest : (ν : List ℕ) → Full R ν → r.best_count ≤ cuts ν
    lowest ν f = settled_closed (rw (open_done R r done) at (c.settled ν f))

    go : (o : Option (List ℕ)) → r.best ≡ o → BestIs R o r.best_count → Exact R r
    go (some τ) e b =
        record {
          marking = τ;
          best = e;
          full = b.0;
          count = b.1;
          closed = rw (open_done R r done) refl;
          least = lowest;
        }
    go none e b =
        let low = lowest (replicate R.k 2) (all_cut_full S) in
        no_way (omega (arith, all_cut_cuts R.k))

-- a complete walk is exact
pub complete_exact : {R : Rules} (m n nonzeros : ℕ) (caps : Caps) (tries : ℕ) → Sound R
    → (after R m n nonzeros caps tries).complete ≡ true → Exact R (after R m n nonzeros caps tries)
complete_exact {R} m n nonzeros caps tries S done =
    covers_exact (after R m n nonzeros caps tries) S (walk_covers S m n nonzeros caps tries) done

-- rules with the same k, mark 1 first in both or in neither, and the same valid markings
pub record SameMarkings (R R' : Rules) : Type 0 where
  pub lines : R.k ≡ R'.k
  pub ones : R.one_first ≡ R'.one_first
  pub fits : R.valid ≡ R'.valid

same_turned : {R R' : Rules} → SameMarkings R R' → SameMarkings R' R
same_turned same = record { lines = sym same.lines; ones = sym same.ones; fits = sym same.fits }

-- have the same full markings
same_full : {R R' : Rules} {ν : List ℕ} → SameMarkings R R' → Full R ν → Full R' ν
same_full {R} {R'} {ν} same f =
    record {
      long = f.long ∙ same.lines;
      marks = f.marks;
      allowed = sym (ap (λ (first : Bool). ones_allowed first ν) same.ones) ∙ f.allowed;
      fits = sym (ap (λ (v : List ℕ → Bool). v ν) same.fits) ∙ f.fits;
    }

-- two exact results of the same full markings have the same count
exact_same : {R R' : Rules} {r r' : Record} → SameMarkings R R' → Exact R r → Exact R' r' → r.best_count ≡ r'.best_count
exact_same {R} {R'} {r} {r'} same e e' =
    let here : r.best_count ≤ cuts e'.marking = e.least _ (same_full (same_turned same) e'.full) in
    let there : r'.best_count ≤ cuts e.marking = e'.least _ (same_full same e.full) in
    omega (arith, e.count, e'.count)

-- complete walks with any two sound bounds over the same markings end at the same count
pub same_minimum : {R R' : Rules} (m n nonzeros : ℕ) (caps : Caps) (tries m' n' nonzeros' : ℕ) (caps' : Caps) (tries' : ℕ)
    → Sound R → Sound R' → SameMarkings R R'
    → (after R m n nonzeros caps tries).complete ≡ true → (after R' m' n' nonzeros' caps' tries').complete ≡ true
    → (after R m n nonzeros caps tries).best_count ≡ (after R' m' n' nonzeros' caps' tries').best_count
same_minimum m n nonzeros caps tries m' n' nonzeros' caps' tries' S S' same done done' =
    exact_same same
    (complete_exact m n nonzeros caps tries S done)
    (complete_exact m' n' nonzeros' caps' tries' S' done')
