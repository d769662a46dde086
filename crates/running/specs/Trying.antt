-- Tries that take every trail of so many marks as full: with k they are the walk's own, and with none they find the floor.
-- Assumes nothing.
use Rattle.std.specs.Prelude.{Bool, true, false, ◌∷◌, ℕ, zero, suc, ltb, length}
use Rattle.std.proofs.Math.Option.{some}
use Rattle.counting.specs.Tests.{pick}
use Rattle.model.specs.Walk.{Record, Rules, advance, tried, looks_at, stands}

-- the trail becomes the best marking and its bound the best count; of a full marking the bound is its cut lines
unfoldable pub bettered : Rules → Record → Record
bettered R r =
    record {
      m = r.m;
      n = r.n;
      nonzeros = r.nonzeros;
      caps = r.caps;
      tries = r.tries;
      looks = r.looks;
      best_count = R.bound r.trail;
      best = some r.trail;
      complete = r.complete;
      trail = r.trail;
    }

-- what a try does to a trail that stands or not, shorter than a full one or not
unfoldable pub outcome_to : Rules → Bool → Bool → Record → Record
outcome_to R true true r = tried (looks_at R r.trail) r (0 ∷ r.trail)
outcome_to R true false r = tried (looks_at R r.trail) (bettered R r) (advance R.one_first r.trail)
outcome_to R false shorter r = tried (looks_at R r.trail) r (advance R.one_first r.trail)

-- one try, with so many marks for a full trail
unfoldable pub try_to : Rules → ℕ → Record → Record
try_to R full r = outcome_to R (stands R r) (ltb (length r.trail) full) r

-- one try, or none on a complete search
unfoldable pub step_to : Rules → ℕ → Record → Record
step_to R full r = pick r.complete r (try_to R full r)

-- so many tries, or fewer only because the search became complete
unfoldable pub walk_to : Rules → ℕ → ℕ → Record → Record
walk_to R full zero r = r
walk_to R full (suc n) r = step_to R full (walk_to R full n r)
