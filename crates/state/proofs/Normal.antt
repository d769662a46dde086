-- A cleared search is the search of its record, where its markings fit their arrays.
-- Assumes nothing.
use mathlib.Core.Bool.{Bool, true, false}
use mathlib.Core.List.{[]}
use mathlib.Core.Path.{◌≡◌, refl, sym, ◌∙◌}
use Prim.Native.Nat.{◌≤◌}
use borrow.Author.Tests.{le-ltb}
use Rattle.counting.proofs.Joined.{pick_true, pick-false}
use Rattle.trail.specs.Trail.{mark_room}
use Rattle.trail.specs.declared.Trail.{Trail}
use Rattle.model.specs.declared.Search.{Search}
use Rattle.model.specs.State.{marks_in, trail_of, best_in, is_found, best_or, record_of, search_of}
use Rattle.state.specs.Holding.{cleared_to, best_to, normal_of}

-- a trail that fits its array
pub cleared_is : (trail : Trail) → trail.len ≤ mark_room → cleared_to trail ≡ trail_of (marks_in trail)
unfolding cleared_to
cleared_is trail h = pick-false (trail_of []) (trail_of (marks_in trail)) (le-ltb mark_room trail.len h)

found_is : (found : Bool) (best : Trail) → is_found (best_in found best) ≡ found
unfolding is_found best_in
found_is true best = refl
found_is false best = refl

-- a best marking that fits its array, or none
best_is :
    (found : Bool) (best : Trail) → (found ≡ true → best.len ≤ mark_room) →
    best_to found best ≡ trail_of (best_or (best_in found best))
unfolding best_to best_in best_or
best_is true best h = pick_true (cleared_to best) (trail_of []) refl ∙ cleared_is best (h refl)
best_is false best h = pick-false (cleared_to best) (trail_of []) refl

-- a search whose markings fit their arrays
pub normal_is :
    (s : Search) → s.trail.len ≤ mark_room → (s.found ≡ true → s.best.len ≤ mark_room) →
    normal_of s ≡ search_of (record_of s)
unfolding normal_of search_of record_of
normal_is s short best =
    λ i. record {
      m = s.m;
      n = s.n;
      nonzeros = s.nonzeros;
      cap0 = s.cap0;
      cap1 = s.cap1;
      tries = s.tries;
      looks = s.looks;
      best_count = s.best_count;
      found = sym (found_is s.found s.best) i;
      best = best_is s.found s.best best i;
      complete = s.complete;
      trail = cleared_is s.trail short i;
    }
