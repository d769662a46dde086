-- What a state that is not refused has: markings that fit, and the tables of its list at hand.
-- Assumes nothing.
use mathlib.Core.Bool.{Bool, true, false, not}
use mathlib.Core.List.{List, [], ◌∷◌}
use mathlib.Core.Option.{Option, some, none}
use mathlib.Core.Path.{◌≡◌, refl, sym, ◌∙◌, ap}
use Prim.Native.Nat.{ℕ, ◌+◌, ◌*◌, ◌≤◌, ◌<◌}
use native.Mathlib.Nat.{mul_assoc}
use native.Mathlib.Omega.{arith}
use lib.Dec.{eqb, leb}
use lib.ListN.{length, get_or}
use borrow.Author.Tests.{leb-true, eqb-true}
use Rattle.counting.proofs.Joined.{clash, and_left, and_right, never}
use Rattle.trail.specs.Trail.{mark_room}
use Rattle.model.specs.Refusal.{accepted}
use Rattle.model.specs.declared.Search.{Search}
use Rattle.model.specs.Limits.{line_room, line_limit, tries_limit}
use Rattle.model.specs.Pattern.{pattern_of, line_count, line_total}
use Rattle.model.specs.Walk.{Record, Rules, rules_of, cuts, is_empty}
use Rattle.model.specs.State.{marks_in, best_in, caps_in, record_of, search_of, are_marks, ones_allowed, beginnings_valid, trail_fine, best_fine, state_fine, counts_fine}
use Rattle.model.specs.Calls.{list_verdict}
use Rattle.state.specs.Holding.{normal_of}
use Rattle.matching.specs.Starts.{side_room, row_start}
use Rattle.pattern.specs.Room.{within}
use Rattle.marking.specs.Order.{total_by}
use Rattle.bound.specs.Evaluated.{Placed}
use Rattle.bound.proofs.Evaluations.{listed_few, accepted_listed}
use Rattle.model.proofs.Walk.Looked.{Looked}
use Rattle.model.proofs.Theorems.Accepted.{list_accepted}
use Rattle.model.proofs.Theorems.OfList.{rules_k}
use Rattle.state.specs.Ready.{Ready, Fits}
use Rattle.state.proofs.Normal.{normal_is}
use Rattle.state.proofs.Held.{record_back, few_lines}
use Rattle.state.proofs.StateLaws.{marks_length}
use Rattle.state.proofs.Totals.{total_of_counts}

empty_short : (R : Rules) (τ : List ℕ) → is_empty τ ≡ true → length τ ≤ R.k
unfolding is_empty
empty_short R [] h = omega arith
empty_short R (x ∷ τ) h = clash h refl

pub some_same : {a b : List ℕ} → ◌≡◌ {A = Option (List ℕ)} (some a) (some b) → a ≡ b
some_same e = cc

absurd_none : {A : Type 0} {a : List ℕ} → ◌≡◌ {A = Option (List ℕ)} none (some a) → A
absurd_none e = never (cc)

-- a trail that is not refused has at most k marks
trail_short : (R : Rules) (complete : Bool) (τ : List ℕ) → trail_fine R complete τ ≡ true → length τ ≤ R.k
unfolding trail_fine
trail_short R true τ h = empty_short R τ h
trail_short R false τ h =
    leb-true
    (length τ)
    R.k
    (and_right
    (not (is_empty τ))
    (leb (length τ) R.k)
    (and_left _ (are_marks τ) (and_left _ (ones_allowed R.one_first τ) (and_left _ (beginnings_valid R τ) h))))

-- a best marking that is not refused has k
best_short : (R : Rules) (o : Option (List ℕ)) (count : ℕ) (complete : Bool) → best_fine R o count complete ≡ true → (τ : List ℕ) → o ≡ some τ → length τ ≤ R.k
unfolding best_fine
best_short R none count complete h τ e = absurd_none e
best_short R (some ρ) count complete h τ e =
    let long = eqb-true (length ρ) R.k (and_left _ (are_marks ρ) (and_left _ (R.valid ρ) (and_left _ (eqb (cuts ρ) count) h))) in
    omega (arith, ap length (some_same e))

-- so the markings of a state that is not refused fit
pub fine_fits :
    (R : Rules) (m n nonzeros : ℕ) (r : Record) → state_fine R m n nonzeros r ≡ true → Fits R.k r
unfolding state_fine
fine_fits R m n nonzeros r h =
    record {
      trail_fits = trail_short R r.complete r.trail (and_right _ (trail_fine R r.complete r.trail) (and_left _ (best_fine R r.best r.best_count r.complete) h));
      best_fits = best_short R r.best r.best_count r.complete (and_right _ (best_fine R r.best r.best_count r.complete) h);
    }

-- and its looks are at most tries × m × N
pub fine_looked : (R : Rules) (m n nonzeros : ℕ) (r : Record) → state_fine R m n nonzeros r ≡ true → Looked (m * nonzeros) r
unfolding state_fine counts_fine
fine_looked R m n nonzeros r h =
    record {
      few = omega (
        arith,
        leb-true
            r.looks
            (r.tries * m * nonzeros)
            (and_right (leb r.tries tries_limit) _ (and_right _ (counts_fine r.tries r.looks m nonzeros) (and_left _ (trail_fine R r.complete r.trail) (and_left _ (best_fine R r.best r.best_count r.complete) h)))),
        mul_assoc r.tries m nonzeros,
      );
    }

-- the best marking that a search holds, where it has found one
pub best_some : (s : Search) → s.found ≡ true → (record_of s).best ≡ some (marks_in s.best)
unfolding record_of best_in
best_some s h = ap (λ (b : Bool). best_in b s.best) h

-- so its trail and its best marking fit their arrays
module _ (s : Search) (k : ℕ) (small : k ≤ mark_room) (f : Fits k (record_of s)) where
  pub trail_fits : s.trail.len ≤ mark_room
  unfolding record_of
  trail_fits = omega (arith, f.trail_fits, marks_length s.trail)

  pub best_fits : s.found ≡ true → s.best.len ≤ mark_room
  unfolding record_of
  best_fits found = omega (arith, f.best_fits (marks_in s.best) (best_some s found), marks_length s.best)

  -- and its cleared search is the search of its record
  pub fine_normal : normal_of s ≡ search_of (record_of s)
  fine_normal = normal_is s trail_fits best_fits

-- a record whose markings fit reads back from its search
pub fits_back : (k : ℕ) (r : Record) → k ≤ mark_room → Fits k r → record_of (search_of r) ≡ r
fits_back k r small f =
    record_back r (omega (arith, f.trail_fits)) (λ τ e. omega (arith, f.best_fits τ e))

-- the tables of an accepted list are at hand
accepted_few : (m n nonzeros : ℕ) (list : List ℕ) → list_verdict m n nonzeros list ≡ accepted → line_total (pattern_of m n nonzeros list) ≤ mark_room
unfolding pattern_of
accepted_few m n nonzeros list h =
    few_lines (pattern_of m n nonzeros list) (list_accepted m n nonzeros list h).rows_to (list_accepted m n nonzeros list h).columns_to

pub accepted_ready :
    (m n nonzeros : ℕ) (list counts places starts : List ℕ) (k : ℕ) →
    list_verdict m n nonzeros list ≡ accepted →
    ((l : ℕ) → l < line_room → get_or counts l 0 ≡ line_count (pattern_of m n nonzeros list) l) →
    (m + n ≤ line_room → ((l : ℕ) → l < line_room → get_or counts l 0 ≡ line_count (pattern_of m n nonzeros list) l) →
    ((l : ℕ) → line_count (pattern_of m n nonzeros list) l ≤ line_limit) → Placed (pattern_of m n nonzeros list) places) →
    ((i : ℕ) → i ≤ side_room → get_or starts i 0 ≡ row_start (pattern_of m n nonzeros list) i) →
    k ≡ total_by counts (within (m + n)) →
    Ready m n nonzeros list places starts k
accepted_ready m n nonzeros list counts places starts k h counted placed started total =
    let listed = accepted_listed m n nonzeros list starts h started in
    let room = listed_few listed in
    let all = total_of_counts m n nonzeros list counts k room counted total in
    record {
      listed = listed;
      placed = placed room counted listed.thin;
      total = all;
      few = omega (arith, all, accepted_few m n nonzeros list h);
    }

pub fits_at : (j k : ℕ) (r : Record) → j ≡ k → Fits j r → Fits k r
fits_at j k r e f = record { trail_fits = omega (arith, e, f.trail_fits); best_fits = λ τ b. omega (arith, e, f.best_fits τ b) }

-- a state that is not refused, on tables at hand: its markings fit, and its cleared search is that of its record
pub ready_fits :
    (m n nonzeros : ℕ) (list places starts : List ℕ) (k : ℕ) (s : Search) → Ready m n nonzeros list places starts k →
    state_fine (rules_of (pattern_of m n nonzeros list) (caps_in s)) m n nonzeros (record_of s) ≡ true → Fits k (record_of s)
ready_fits m n nonzeros list places starts k s ready fine =
    let P = pattern_of m n nonzeros list in
    fits_at _ k (record_of s) (rules_k P (caps_in s) ∙ sym ready.total) (fine_fits (rules_of P (caps_in s)) m n nonzeros (record_of s) fine)
