-- With k marks for a full trail, the tries are those of the walk.
-- Assumes nothing.
use mathlib.Core.Bool.{Bool, true, false}
use mathlib.Core.List.{List}
use mathlib.Core.Option.{some}
use mathlib.Core.Path.{◌≡◌, refl, ◌∙◌, ap, subst}
use Prim.Native.Nat.{ℕ, zero, suc, ◌≤◌}
use native.Mathlib.Omega.{arith}
use lib.Dec.{ltb}
use lib.ListN.{length}
use borrow.Author.Tests.{ltb-false}
use Rattle.counting.specs.Tests.{pick}
use Rattle.counting.proofs.Joined.{and_left}
use Rattle.model.specs.Walk.{Record, Rules, advance, cuts, tried, improved, looks_at, stands, outcome, try_once, step, walk}
use Rattle.model.proofs.Walk.Sound.{Sound}
use Rattle.model.proofs.Walk.Sound.Begins.{whole}
use Rattle.model.proofs.Walk.Legal.{Legal, legal_full}
use Rattle.running.specs.Trying.{bettered, outcome_to, try_to, step_to, walk_to}
use Rattle.running.proofs.Walked.{Going, walk_going}

module _ {R : Rules} (S : Sound R) where
  -- the bound of a full marking is its cut lines
  full_bound : (τ : List ℕ) → Legal R τ → R.valid τ ≡ true → R.k ≤ length τ → R.bound τ ≡ cuts τ
  full_bound τ legal fits long =
      let f = legal_full legal fits long in
      omega (arith, S.full τ f, (S.beginning τ τ whole f).1)

  try_same : (r : Record) → Going R r → try_to R R.k r ≡ try_once R r
  unfolding try_to outcome_to bettered try_once outcome improved stands
  try_same r g = go (stands R r) (ltb (length r.trail) R.k) refl refl
    where
      go : (b c : Bool) → stands R r ≡ b → ltb (length r.trail) R.k ≡ c → outcome_to R b c r ≡ outcome R b c r
      go true true up short = refl
      go true false up long =
          let e = full_bound r.trail g.legal (and_left _ _ up) (ltb-false _ _ long) in
          λ i. tried (looks_at R r.trail) (record {
            m = r.m;
            n = r.n;
            nonzeros = r.nonzeros;
            caps = r.caps;
            tries = r.tries;
            looks = r.looks;
            best_count = e i;
            best = some r.trail;
            complete = r.complete;
            trail = r.trail;
          }) (advance R.one_first r.trail)
      go false c down any = refl

  pub walk_exact : (n : ℕ) (r : Record) → Going R r → walk_to R R.k n r ≡ walk R n r
  unfolding walk_to step_to walk step
  walk_exact zero r g = refl
  walk_exact (suc n) r g =
      let s = walk R n r in
      let e = walk_exact n r g in
      ap (step_to R R.k) e
      ∙ ap (pick s.complete s) (try_same s (subst (λ (x : Record). Going R x) e (walk_going R R.k n r (omega arith) g)))
