-- With no marks for a full trail, the tries find the floor: each open marking is tried, one after another, and the least bound is left.
-- Assumes nothing.
use mathlib.Core.List.{List, [], ◌∷◌}
use mathlib.Core.Path.{◌≡◌, refl, sym, ◌∙◌, ap}
use Prim.Native.Nat.{ℕ, zero, suc, ◌+◌, ◌*◌, ◌≤◌, ◌<◌, min}
use native.Mathlib.Omega.{arith}
use lib.ListN.{length}
use borrow.Author.Tests.{ltb-true, ltb-false}
use Rattle.counting.proofs.Joined.{no_way, by_test, and_left, and_right, and-other, pick_true, pick-false}
use Rattle.model.specs.Walk.{Record, Rules, is_empty, advance, tried, stands, least_bound, floor}
use Rattle.running.specs.Trying.{bettered, try_to, walk_to}
use Rattle.running.proofs.Tries.{try_keeps, step_stays, step_tries, walk_first}
use Rattle.running.proofs.Walked.{Going, try_going}
use Rattle.running.proofs.Openings.{opens, floor-opens, opens-counted, opens-none, lateness, lateness-falls, late_some, late_none, late_most}

module _ (R : Rules) where
  -- a try advances the trail,
  try_advances : (r : Record) → (try_to R 0 r).trail ≡ advance R.one_first r.trail
  unfolding tried bettered
  try_advances r =
      try_keeps R 0 r (λ s. s.trail ≡ advance R.one_first r.trail) (λ up room. no_way (omega arith)) (λ up long. refl) (λ down. refl)

  -- and leaves the least of the best count and the trail's bound
  try_least : (r : Record) → (try_to R 0 r).best_count ≡ least_bound R r.best_count (r.trail ∷ [])
  unfolding tried bettered stands least_bound
  try_least r =
      try_keeps
      R
      0
      r
      (λ s. s.best_count ≡ least_bound R r.best_count (r.trail ∷ []))
      (λ up room. no_way (omega arith))
      (λ up long.
      let b : R.bound r.trail < r.best_count = ltb-true _ _ (and_right _ _ up) in
      omega (arith, pick_true (min (R.bound r.trail) r.best_count) r.best_count (and_left _ _ up)))
      (λ down.
      by_test
      (R.valid r.trail)
      (λ fits.
      let b : r.best_count ≤ R.bound r.trail = ltb-false _ _ (and-other _ _ down fits) in
      omega (arith, pick_true (min (R.bound r.trail) r.best_count) r.best_count fits))
      (λ unfit. sym (pick-false (min (R.bound r.trail) r.best_count) r.best_count unfit)))

  -- so many tries that none is left to be made
  least_left :
      (n : ℕ) (r : Record) → Going R r → lateness r.trail ≤ n →
      (walk_to R 0 n r).best_count ≡ least_bound R r.best_count (opens R.one_first r.trail)
  unfolding walk_to
  least_left zero r g late =
      by_test
      (is_empty r.trail)
      (λ none. sym (opens-none R R.one_first r.best_count r.trail none))
      (λ some. no_way (omega (arith, late_some r.trail g.legal.marks some)))
  least_left (suc n) r g late =
      ap (λ (s : Record). s.best_count) (walk_first R 0 n r)
      ∙ by_test
      r.complete
      (λ done.
      ap (λ (s : Record). (walk_to R 0 n s).best_count) (step_stays R 0 r done)
      ∙ least_left n r g (omega (arith, late_none r.trail (sym g.ended ∙ done))))
      (λ going.
      let s = try_to R 0 r in
      let first = R.one_first in
      let some = sym g.ended ∙ going in
      ap (λ (s : Record). (walk_to R 0 n s).best_count) (step_tries R 0 r going)
      ∙ least_left n s (try_going R 0 r (omega arith) g) (omega (arith, ap lateness (try_advances r), lateness-falls first r.trail g.legal.marks some))
      ∙ ap (λ (x : ℕ). least_bound R x (opens first s.trail)) (try_least r)
      ∙ ap (λ (τ : List ℕ). least_bound R (least_bound R r.best_count (r.trail ∷ [])) (opens first τ)) (try_advances r)
      ∙ sym (opens-counted R first r.best_count r.trail some))

  -- a trail has itself and at most two later marks for each of its marks to be tried
  pub floor-found : (n : ℕ) (r : Record) → Going R r → 2 * length r.trail + 1 ≤ n → (walk_to R 0 n r).best_count ≡ floor R r
  floor-found n r g enough = least_left n r g (omega (arith, late_most r.trail)) ∙ floor-opens R r g.ended
