-- A search holds a record and gives it back: the record read off the search of a record is that record.
-- Assumes nothing.
use mathlib.Core.List.{List}
use mathlib.Core.Option.{Option, some, none}
use mathlib.Core.Path.{◌≡◌, refl, ap}
use Prim.Native.Nat.{ℕ, ◌≤◌}
use native.Mathlib.Omega.{arith}
use lib.ListN.{length}
use Rattle.counting.proofs.Counted.{count_most}
use Rattle.trail.specs.Trail.{mark_room}
use Rattle.model.specs.Limits.{line_limit}
use Rattle.model.specs.Pattern.{Pattern, lines, nonempty, line_total}
use Rattle.model.specs.Walk.{Record}
use Rattle.model.specs.State.{marks_in, best_in, record_of, trail_of, is_found, best_or, search_of}
use Rattle.model.proofs.State.Arrays.{array_stack}

-- a marking in an array reads back
pub marks_back : (τ : List ℕ) → length τ ≤ mark_room → marks_in (trail_of τ) ≡ τ
unfolding marks_in trail_of
marks_back τ h = array_stack τ h

-- a best marking, or none, reads back
best_back :
    (o : Option (List ℕ)) → ((τ : List ℕ) → o ≡ some τ → length τ ≤ mark_room) →
    best_in (is_found o) (trail_of (best_or o)) ≡ o
unfolding best_in is_found best_or
best_back none h = refl
best_back (some τ) h = ap some (marks_back τ (h τ refl))

-- a record whose markings fit reads back
pub record_back :
    (r : Record) → length r.trail ≤ mark_room →
    ((τ : List ℕ) → r.best ≡ some τ → length τ ≤ mark_room) → record_of (search_of r) ≡ r
unfolding record_of search_of
record_back r short best =
    λ i. record {
      m = r.m;
      n = r.n;
      nonzeros = r.nonzeros;
      caps = r.caps;
      tries = r.tries;
      looks = r.looks;
      best_count = r.best_count;
      best = best_back r.best best i;
      complete = r.complete;
      trail = marks_back r.trail short i;
    }

-- a pattern of at most line_limit rows and line_limit columns has at most mark_room lines with nonzeros
pub few_lines : (P : Pattern) → P.m ≤ line_limit → P.n ≤ line_limit → line_total P ≤ mark_room
unfolding line_total lines
few_lines P h g = omega (arith, count_most (nonempty P) (lines P))
