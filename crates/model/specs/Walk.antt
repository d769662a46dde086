-- Document 01, 'The walk', with the two caps of document 02's request 5 and the looks of its request 6: the record, fresh, one try, advance,
-- the walk after n tries, open markings, floor and shown split. What the walk asks of a marking is a parameter, `Rules`; the paper's walk is the one with the rules of a
-- pattern and its caps.
-- Assumes nothing.
use Rattle.std.specs.Prelude.{Bool, true, false, List, [], ◌∷◌, ◌++◌, ℕ, zero, suc, ◌+◌, min, eqb, ltb, length}
use Rattle.std.proofs.Math.Option.{Option, some, none}
use Rattle.counting.specs.Tests.{◌and◌, ◌or◌, pick, bit}
use Rattle.model.specs.declared.Part.TheVariants.{Zero, One}
use Rattle.model.specs.declared.Mark.TheVariants.{To, Cut}
use Rattle.model.specs.declared.Caps.{Caps}
use Rattle.model.specs.Pattern.{Pattern, line_total}
use Rattle.model.specs.Split.{Split, unequal}
use Rattle.model.specs.Marking.{Marking, mark_number, marking, takes, taken, valid}
use Rattle.model.specs.Bound.{bound, untaken}
use Rattle.model.specs.Matching.{looks}

-- the running search is one record; a marking is the list of its marks, the last first
pub record Record : Type 0 where
  pub m : ℕ
  pub n : ℕ
  pub nonzeros : ℕ
  pub caps : Caps
  pub tries : ℕ
  pub looks : ℕ
  pub best_count : ℕ
  pub best : Option (List ℕ)
  pub complete : Bool
  pub trail : List ℕ

-- what the walk asks of a marking: k, whether mark 1 is allowed before any 0, validity, the bound and its looks
pub record Rules : Type 0 where
  pub k : ℕ
  pub one_first : Bool
  pub valid : List ℕ → Bool
  pub bound : List ℕ → ℕ
  pub looks : List ℕ → ℕ

-- the rules of a pattern and its caps: with unequal caps mark 1 is allowed before any 0
unfoldable pub rules_of : Pattern → Caps → Rules
rules_of P caps =
    record {
      k = line_total P;
      one_first = unequal caps;
      valid = λ trail. valid P caps (marking P trail);
      bound = λ trail. bound P caps (marking P trail);
      looks = λ trail. looks P (marking P trail);
    }

-- fresh: tries 0, looks 0, best count k + 1, no best marking, trail [0]; if k = 0: complete, best count 0, empty trail and empty best marking
unfoldable pub fresh : ℕ → ℕ → ℕ → Caps → ℕ → Record
fresh m n nonzeros caps zero =
    record {
      m = m;
      n = n;
      nonzeros = nonzeros;
      caps = caps;
      tries = 0;
      looks = 0;
      best_count = 0;
      best = some [];
      complete = true;
      trail = [];
    }
fresh m n nonzeros caps (suc k) =
    record {
      m = m;
      n = n;
      nonzeros = nonzeros;
      caps = caps;
      tries = 0;
      looks = 0;
      best_count = suc k + 1;
      best = none;
      complete = false;
      trail = mark_number (To Zero) ∷ [];
    }

-- fresh, for a pattern and its caps: m, n, N and caps as the opening was given them
unfoldable pub fresh_of : Pattern → Caps → Record
fresh_of P caps = fresh P.m P.n P.size caps (line_total P)

-- no marks
unfoldable pub is_empty : List ℕ → Bool
is_empty [] = true
is_empty (x ∷ xs) = false

-- some mark is 0 or 1
unfoldable pub gives_part : List ℕ → Bool
gives_part [] = false
gives_part (x ∷ xs) = eqb x (mark_number (To Zero)) or eqb x (mark_number (To One)) or gives_part xs

-- mark 1 is allowed behind these earlier marks: it may come first, or some earlier mark is 0 or 1
unfoldable pub one_allowed : Bool → List ℕ → Bool
one_allowed first earlier = first or gives_part earlier

-- the mark that a last mark 0 becomes: 1 if that is allowed, else cut
unfoldable pub after_zero : Bool → List ℕ → ℕ
after_zero first earlier = pick (one_allowed first earlier) (mark_number (To One)) (mark_number Cut)

-- advance: last mark 0 becomes 1 or cut; 1 becomes cut; cut is dropped and the mark before it advances; empty if none is before
unfoldable pub advance : Bool → List ℕ → List ℕ
advance first [] = []
advance first (zero ∷ xs) = after_zero first xs ∷ xs
advance first (suc zero ∷ xs) = mark_number Cut ∷ xs
advance first (suc (suc x) ∷ xs) = advance first xs

-- cut lines of a marking
unfoldable pub cuts : List ℕ → ℕ
cuts [] = 0
cuts (x ∷ xs) = bit (eqb x (mark_number Cut)) + cuts xs

-- one try more with so many looks, after which this trail is the next; the search is complete if it is empty
unfoldable pub tried : ℕ → Record → List ℕ → Record
tried looks r next =
    record {
      m = r.m;
      n = r.n;
      nonzeros = r.nonzeros;
      caps = r.caps;
      tries = r.tries + 1;
      looks = r.looks + looks;
      best_count = r.best_count;
      best = r.best;
      complete = is_empty next;
      trail = next;
    }

-- the trail becomes the best marking and its cut lines the best count
unfoldable pub improved : Record → Record
improved r =
    record {
      m = r.m;
      n = r.n;
      nonzeros = r.nonzeros;
      caps = r.caps;
      tries = r.tries;
      looks = r.looks;
      best_count = cuts r.trail;
      best = some r.trail;
      complete = r.complete;
      trail = r.trail;
    }

-- the trail stands if it is valid and its bound is below the best count
unfoldable pub stands : Rules → Record → Bool
stands R r = R.valid r.trail and ltb (R.bound r.trail) r.best_count

-- the looks of a try on a trail: those of its bound if it is valid, none if not
unfoldable pub looks_at : Rules → List ℕ → ℕ
looks_at R trail = pick (R.valid trail) (R.looks trail) 0

-- what a try does to a trail that stands or not, shorter than k or of length k
unfoldable pub outcome : Rules → Bool → Bool → Record → Record
outcome R true true r = tried (looks_at R r.trail) r (mark_number (To Zero) ∷ r.trail)
outcome R true false r = tried (looks_at R r.trail) (improved r) (advance R.one_first r.trail)
outcome R false shorter r = tried (looks_at R r.trail) r (advance R.one_first r.trail)

-- one try
unfoldable pub try_once : Rules → Record → Record
try_once R r = outcome R (stands R r) (ltb (length r.trail) R.k) r

-- one try, or none on a complete search
unfoldable pub step : Rules → Record → Record
step R r = pick r.complete r (try_once R r)

-- the walk after n tries, or fewer only because it became complete
unfoldable pub walk : Rules → ℕ → Record → Record
walk R zero r = r
walk R (suc n) r = step R (walk R n r)

-- the walk of a pattern and its caps after n tries from a fresh search
unfoldable pub walked : Pattern → Caps → ℕ → Record
walked P caps n = walk (rules_of P caps) n (fresh_of P caps)

-- a beginning with its last mark put later by allowed advances (up to cut)
unfoldable pub put_later : Bool → List ℕ → List (List ℕ)
put_later first [] = []
put_later first (zero ∷ xs) =
    pick (one_allowed first xs) ((mark_number (To One) ∷ xs) ∷ []) [] ++ ((mark_number Cut ∷ xs) ∷ [])
put_later first (suc zero ∷ xs) = (mark_number Cut ∷ xs) ∷ []
put_later first (suc (suc x) ∷ xs) = []

-- each beginning of a trail, the whole included, the empty one not, so put later
unfoldable pub beginnings_later : Bool → List ℕ → List (List ℕ)
beginnings_later first [] = []
beginnings_later first (x ∷ xs) = put_later first (x ∷ xs) ++ beginnings_later first xs

-- open markings: none if complete; else the trail, and each beginning of it with its last mark put later
unfoldable pub open_markings : Rules → Record → List (List ℕ)
open_markings R r = pick r.complete [] (r.trail ∷ beginnings_later R.one_first r.trail)

-- the least of a count and the bounds of the valid markings of a list
unfoldable pub least_bound : Rules → ℕ → List (List ℕ) → ℕ
least_bound R best [] = best
least_bound R best (τ ∷ τs) =
    pick (R.valid τ) (min (R.bound τ) (least_bound R best τs)) (least_bound R best τs)

-- floor: the least of the best count and the bounds of the valid open markings
unfoldable pub floor : Rules → Record → ℕ
floor R r = least_bound R r.best_count (open_markings R r)

-- nonzeros other than the taken ones that stand before nonzero t and go to 0: in number order, while part 0 has fewer than cap 0
unfoldable pub filled : Pattern → Caps → Marking → ℕ → ℕ
filled P caps μ zero = 0
filled P caps μ (suc t) =
    filled P caps μ t + bit (untaken P μ t and ltb (taken P μ Zero + filled P caps μ t) caps.cap0)

-- shown split: taken nonzeros go to their part; the others, in number order, to 0 while part 0 has fewer than cap 0, then to 1
unfoldable pub shown_split : Pattern → Caps → Marking → Split
shown_split P caps μ t =
    pick
    (takes P μ Zero t)
    Zero
    (pick
    (takes P μ One t)
    One
    (pick (ltb (taken P μ Zero + filled P caps μ t) caps.cap0) Zero One))
