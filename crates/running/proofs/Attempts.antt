-- A try with one mark more: what it answers, and what is kept after it.
-- Assumes nothing.
use mathlib.Core.Bool.{true, false}
use mathlib.Core.List.{List, ◌∷◌}
use mathlib.Core.Path.{◌≡◌, sym, ◌∙◌, ap, subst}
use Prim.Native.Nat.{ℕ, ◌≤◌, ◌<◌, min}
use native.Mathlib.Omega.{arith}
use lib.Dec.{ltb}
use lib.ListN.{length}
use borrow.Author.Tests.{lt-ltb, ltb-true}
use Rattle.counting.specs.Tests.{pick}
use Rattle.counting.proofs.Joined.{clash, both_ways, and_passed, and_fails_left, pick_true, pick-false}
use Rattle.model.specs.declared.Caps.{Caps}
use Rattle.model.specs.Limits.{line_limit}
use Rattle.model.specs.Pattern.{Pattern, Inside, lines, line_count}
use Rattle.model.specs.Marking.{marking, unmarked, valid}
use Rattle.model.specs.Bound.{bound}
use Rattle.model.specs.Matching.{looks}
use Rattle.model.specs.Walk.{rules_of, looks_at}
use Rattle.model.proofs.Order.Places.{line_at_lem}
use Rattle.model.proofs.Theorems.OfList.{rules_k, rules-valid}
use Rattle.keeping.specs.Kept.{marking_with, Holds}
use Rattle.keeping.proofs.Holding.{holds_eq}
use Rattle.running.specs.declared.kept.Kept.{Kept}
use Rattle.running.specs.declared.walking.Tried.{Tried}
use Rattle.running.specs.Kept.{Keeps}
use Rattle.running.specs.Judging.{Topped}
use Rattle.running.specs.Walking.{Next, Attempted}
use Rattle.running.proofs.Behind.{standing-longer, marking-next, next_free, next-valid, next_topped}

-- the least of a number and a count is below the count exactly if the number is
least_below : (x best : ℕ) → ltb (min x best) best ≡ ltb x best
least_below x best =
    both_ways
    (ltb (min x best) best)
    (ltb x best)
    (λ h. let b : min x best < best = ltb-true (min x best) best h in lt-ltb x best (omega arith))
    (λ h. let b : x < best = ltb-true x best h in lt-ltb (min x best) best (omega arith))

module _ {P : Pattern} {caps : Caps} {τ : List ℕ} {l p : ℕ} (inside : Inside P) (n : Next P caps τ l p) where
  -- the next line is one of the pattern
  pub next_line_lem : l < lines P
  next_line_lem = omega (arith, n.there, (line_at_lem P (length τ) n.room).inside)

  -- it is unmarked
  pub next-unmarked : marking P τ l ≡ unmarked
  next-unmarked = ap (marking P τ) n.there ∙ next_free P τ n.room

  -- the marking without it is valid
  pub next_fits : valid P caps (marking P τ) ≡ true
  next_fits = rules-valid P caps τ ∙ n.standing.fits

  -- the marking with it is the trail's
  with_same : (z : ℕ) → z < lines P → marking_with (marking P τ) l p z ≡ marking P (p ∷ τ) z
  with_same z b = ap (λ (x : ℕ). marking_with (marking P τ) x p z) n.there ∙ marking-next P τ n.room p z b

  pub with_valid : valid P caps (marking_with (marking P τ) l p) ≡ valid P caps (marking P (p ∷ τ))
  with_valid = ap (λ (x : ℕ). valid P caps (marking_with (marking P τ) x p)) n.there ∙ next-valid P τ n.room inside caps p

  pub with_holds :
      {marks by left kinds tally sums loads : List ℕ} →
      Holds P (marking_with (marking P τ) l p) marks by left kinds tally sums loads → Holds P (marking P (p ∷ τ)) marks by left kinds tally sums loads
  with_holds h = holds_eq inside (marking P (p ∷ τ)) with_same h

  -- no unmarked line has more nonzeros than it
  pub with_topped :
      valid P caps (marking P (p ∷ τ)) ≡ true → ((x : ℕ) → line_count P x ≤ line_limit) → (top : ℕ) → top ≡ line_count P l →
      Topped P (marking P (p ∷ τ)) top
  with_topped fits thin top e =
      subst
      (λ (x : ℕ). Topped P (marking P (p ∷ τ)) x)
      (sym (e ∙ ap (line_count P) n.there))
      (next_topped P τ n.room p (standing-longer n.standing (omega (arith, n.room, rules_k P caps)) n.mark (sym (rules-valid P caps (p ∷ τ)) ∙ fits)).marks thin)

  module _ {best : ℕ} {kept : Kept} (r : Tried) where
    -- the mark does not fit
    pub attempt_unfit :
        r.stands ≡ false → r.looks ≡ 0 → valid P caps (marking P (p ∷ τ)) ≡ false →
        Keeps P (marking P τ) kept →
        Attempted P caps τ p best r kept
    unfolding rules_of looks_at
    attempt_unfit down none unfit h =
        record {
          stands_is = down ∙ sym (and_fails_left (ltb (bound P caps (marking P (p ∷ τ))) best) unfit);
          least_is = λ up. clash up down;
          looks_is = none ∙ sym (pick-false (looks P (marking P (p ∷ τ))) 0 unfit);
          holds = subst (λ (ρ : List ℕ). Keeps P (marking P ρ) kept) (sym (pick-false (p ∷ τ) τ down)) h;
        }

    -- it fits, and the bound decides
    pub attempt_fit :
        valid P caps (marking P (p ∷ τ)) ≡ true → r.least ≡ min (bound P caps (marking P (p ∷ τ))) best → r.stands ≡ ltb r.least best →
        r.looks ≡ looks P (marking P (p ∷ τ)) →
        Keeps P (marking P (pick r.stands (p ∷ τ) τ)) kept →
        Attempted P caps τ p best r kept
    unfolding rules_of looks_at
    attempt_fit fits is up looked h =
        record {
          stands_is = up
              ∙ ap (λ (x : ℕ). ltb x best) is
              ∙ least_below (bound P caps (marking P (p ∷ τ))) best
              ∙ sym (and_passed (ltb (bound P caps (marking P (p ∷ τ))) best) fits);
          least_is = λ stands. let b : r.least < best = ltb-true r.least best (sym up ∙ stands) in omega (arith, is);
          looks_is = looked ∙ sym (pick_true (looks P (marking P (p ∷ τ))) 0 fits);
          holds = h;
        }
