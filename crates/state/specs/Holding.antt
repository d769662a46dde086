-- A search with 0 in every mark past a marking's length.
-- Assumes nothing.
use Rattle.std.specs.Prelude.{Bool, [], ltb}
use Rattle.counting.specs.Tests.{pick}
use Rattle.trail.specs.Trail.{mark_room}
use Rattle.trail.specs.declared.Trail.{Trail}
use Rattle.model.specs.declared.Search.{Search}
use Rattle.model.specs.State.{marks_in, trail_of}

-- a trail with 0 past its length, or none where it does not fit its array
unfoldable pub cleared_to : Trail → Trail
cleared_to trail = pick (ltb mark_room trail.len) (trail_of []) (trail_of (marks_in trail))

-- the best marking where there is one
unfoldable pub best_to : Bool → Trail → Trail
best_to found best = pick found (cleared_to best) (trail_of [])

-- a search so cleared
unfoldable pub normal_of : Search → Search
normal_of s =
    record {
      m = s.m;
      n = s.n;
      nonzeros = s.nonzeros;
      cap0 = s.cap0;
      cap1 = s.cap1;
      tries = s.tries;
      looks = s.looks;
      best_count = s.best_count;
      found = s.found;
      best = best_to s.found s.best;
      complete = s.complete;
      trail = cleared_to s.trail;
    }
