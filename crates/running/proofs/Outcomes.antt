-- The record of the walk after a try, as the code holds it, by the three outcomes of a try.
-- Assumes nothing.
use mathlib.Core.Bool.{Bool, true, false}
use mathlib.Core.List.{List, ◌∷◌}
use mathlib.Core.Path.{◌≡◌, refl, sym, ◌∙◌, ap, subst}
use Prim.Native.Nat.{ℕ, ◌+◌}
use lib.Dec.{ltb}
use lib.ListN.{length}
use Rattle.trail.specs.declared.Trail.{Trail}
use Rattle.model.specs.Pattern.{Pattern}
use Rattle.model.specs.Marking.{Marking, marking}
use Rattle.model.specs.Walk.{Record, Rules, advance, tried, looks_at, stands}
use Rattle.model.specs.State.{trail_of, is_found, best_or}
use Rattle.packing.specs.declared.PackedTrail.{PackedTrail}
use Rattle.packing.specs.Packed.{earlier, Packs}
use Rattle.keeping.specs.Kept.{Holds}
use Rattle.running.specs.declared.kept.Kept.{Kept}
use Rattle.running.specs.Kept.{Keeps}
use Rattle.running.specs.Trying.{bettered, try_to}
use Rattle.running.specs.Run.{Goes}
use Rattle.running.proofs.Tries.{try_grows, try_betters, try_gives_up}

module _ {P : Pattern} (R : Rules) (full : ℕ) {r : Record} {trail next : PackedTrail} {best : Trail} {count : ℕ} {found : Bool} {looks : ℕ} {kept kept' : Kept} (g : Goes P r trail best count found looks kept) (looks' : ℕ) (looked : looks' ≡ looks + looks_at R r.trail) where
  -- the trail grows
  pub goes_grown :
      stands R r ≡ true → ltb (length r.trail) full ≡ true → Packs next (0 ∷ r.trail) →
      Keeps P (marking P r.trail) kept' →
      Goes P (try_to R full r) next best count found looks' kept'
  unfolding tried earlier
  goes_grown up short packs holds =
      subst
      (λ (q : Record). Goes P q next best count found looks' kept')
      (try_grows R full r up short)
      (record {
        packs = packs;
        best_is = g.best_is;
        count_is = g.count_is;
        found_is = g.found_is;
        looks_is = looked ∙ ap (λ (x : ℕ). x + looks_at R r.trail) g.looks_is;
        holds = holds;
      })

  -- it becomes the best marking
  pub goes_bettered :
      (better : Trail) (fewer : ℕ) →
      stands R r ≡ true → ltb (length r.trail) full ≡ false → Packs next (advance R.one_first r.trail) →
      better ≡ trail_of r.trail → fewer ≡ R.bound r.trail →
      Keeps P (marking P (earlier (advance R.one_first r.trail))) kept' →
      Goes P (try_to R full r) next better fewer true looks' kept'
  unfolding tried bettered is_found best_or
  goes_bettered better fewer up long packs new few holds =
      subst
      (λ (q : Record). Goes P q next better fewer true looks' kept')
      (try_betters R full r up long)
      (record {
        packs = packs;
        best_is = new;
        count_is = few;
        found_is = refl;
        looks_is = looked ∙ ap (λ (x : ℕ). x + looks_at R r.trail) g.looks_is;
        holds = holds;
      })

  -- or it is given up
  pub goes_given_up :
      stands R r ≡ false → Packs next (advance R.one_first r.trail) →
      Keeps P (marking P (earlier (advance R.one_first r.trail))) kept' →
      Goes P (try_to R full r) next best count found looks' kept'
  unfolding tried
  goes_given_up down packs holds =
      subst
      (λ (q : Record). Goes P q next best count found looks' kept')
      (try_gives_up R full r down)
      (record {
        packs = packs;
        best_is = g.best_is;
        count_is = g.count_is;
        found_is = g.found_is;
        looks_is = looked ∙ ap (λ (x : ℕ). x + looks_at R r.trail) g.looks_is;
        holds = holds;
      })

-- arrays that are the same hold the same
pub holds_same :
    {P : Pattern} {μ : Marking} {marks by left kinds tally sums loads marks' by' left' kinds' tally' sums' loads' : List ℕ} →
    marks' ≡ marks → by' ≡ by → left' ≡ left → kinds' ≡ kinds → tally' ≡ tally → sums' ≡ sums → loads' ≡ loads →
    Holds P μ marks by left kinds tally sums loads → Holds P μ marks' by' left' kinds' tally' sums' loads'
holds_same {P} {μ} {marks} {by} {left} {kinds} {tally} {sums} {loads} {marks'} {by'} {left'} {kinds'} {tally'} {sums'} a b c d e f g h =
    subst
    (λ (x : List ℕ). Holds P μ marks' by' left' kinds' tally' sums' x)
    (sym g)
    (subst
    (λ (x : List ℕ). Holds P μ marks' by' left' kinds' tally' x loads)
    (sym f)
    (subst
    (λ (x : List ℕ). Holds P μ marks' by' left' kinds' x sums loads)
    (sym e)
    (subst
    (λ (x : List ℕ). Holds P μ marks' by' left' x tally sums loads)
    (sym d)
    (subst
    (λ (x : List ℕ). Holds P μ marks' by' x kinds tally sums loads)
    (sym c)
    (subst
    (λ (x : List ℕ). Holds P μ marks' x left kinds tally sums loads)
    (sym b)
    (subst (λ (x : List ℕ). Holds P μ x by left kinds tally sums loads) (sym a) h))))))

-- what is held may be named otherwise
pub goes_same :
    {P : Pattern} {r q : Record} {trail trail' : PackedTrail} {best best' : Trail} {count count' : ℕ} {found found' : Bool} {looks : ℕ} {kept kept' : Kept} →
    r ≡ q → trail' ≡ trail → best' ≡ best → count' ≡ count → found' ≡ found → kept' ≡ kept →
    Goes P r trail best count found looks kept → Goes P q trail' best' count' found' looks kept'
goes_same {P} {r} {q} {trail} {trail'} {best} {best'} {count} {count'} {found} {found'} {looks} {kept} {kept'} e a b c d f g =
    subst
    (λ (x : Record). Goes P x trail' best' count' found' looks kept')
    e
    (record {
      packs = subst (λ (x : PackedTrail). Packs x r.trail) (sym a) g.packs;
      best_is = b ∙ g.best_is;
      count_is = c ∙ g.count_is;
      found_is = d ∙ g.found_is;
      looks_is = g.looks_is;
      holds = subst (λ (x : Kept). Keeps P (marking P (earlier r.trail)) x) (sym f) g.holds;
    })
