-- One try between two records of the walk, as the code holds them.
-- Assumes nothing.
use mathlib.Core.Bool.{Bool, true, false}
use mathlib.Core.List.{List, ◌∷◌}
use mathlib.Core.Path.{◌≡◌, sym, ◌∙◌, ap, subst}
use Prim.Native.Nat.{ℕ, ◌-◌, ◌≤◌, ◌<◌}
use native.Mathlib.Omega.{arith}
use lib.Dec.{ltb}
use lib.ListN.{length}
use borrow.Author.Tests.{leb-true}
use Rattle.counting.specs.Tests.{◌and◌, pick}
use Rattle.counting.proofs.Joined.{by_test, and_left, pick_true, pick-false}
use Rattle.model.specs.declared.Caps.{Caps}
use Rattle.model.specs.Pattern.{Pattern, line_total}
use Rattle.model.specs.Marking.{mark_at, marking}
use Rattle.model.specs.Walk.{Record, Rules, rules_of, is_empty, advance, looks_at, stands}
use Rattle.model.specs.State.{stack, are_marks}
use Rattle.model.proofs.Order.Places.{line_at}
use Rattle.model.proofs.Walk.Sound.Begins.{whole, longer}
use Rattle.model.proofs.Walk.Legal.{Legal}
use Rattle.model.proofs.Walk.Left.{advance-length}
use Rattle.model.proofs.Theorems.OfList.{rules_k}
use Rattle.packing.specs.Packed.{earlier, last_of}
use Rattle.keeping.specs.Kept.{Holds}
use Rattle.running.specs.declared.kept.Kept.{Kept}
use Rattle.running.specs.declared.walking.Tried.{Tried}
use Rattle.running.specs.Kept.{Keeps}
use Rattle.running.specs.Walking.{Standing, Next, Attempted}
use Rattle.running.proofs.Turns.{trail_split, earlier-length, stack_begins, advance_begins, legal_standing}

-- a trail that stands is valid
pub stands-valid : (R : Rules) (r : Record) {s : Bool} → s ≡ stands R r → s ≡ true → R.valid r.trail ≡ true
unfolding stands
stands-valid R r e h = and_left (R.valid r.trail) (ltb (R.bound r.trail) r.best_count) (sym e ∙ h)

module _ (P : Pattern) (caps : Caps) (τ : List ℕ) (legal : Legal (rules_of P caps) τ) (some : is_empty τ ≡ false) where
  split : τ ≡ last_of τ ∷ earlier τ
  split = trail_split τ some

  legal_split : Legal (rules_of P caps) (last_of τ ∷ earlier τ)
  legal_split = subst (λ (ρ : List ℕ). Legal (rules_of P caps) ρ) split legal

  -- they stand
  pub before-standing : Standing (rules_of P caps) (earlier τ)
  before-standing = legal_standing legal_split

  -- there is a line for the last mark
  pub next-room : length (earlier τ) < line_total P
  next-room = omega (arith, ap length split, legal.within, rules_k P caps)

  pub trail_short : length τ ≤ line_total P
  trail_short = omega (arith, legal.within, rules_k P caps)

  -- the last mark, on the next line in order
  pub next_mark_lem : (l p : ℕ) → l ≡ line_at P (length (earlier τ)) → p ≡ last_of τ → Next P caps (earlier τ) l p
  unfolding are_marks
  next_mark_lem l p there is =
      record {
        room = next-room;
        there = there;
        mark = omega (arith, is, leb-true (last_of τ) 2 (and_left _ (are_marks (earlier τ)) legal_split.marks));
        standing = before-standing;
      }

  -- the marks that are placed after a try
  placed_is :
      (s : Bool) (len : ℕ) → len ≡ length τ →
      stack (mark_at τ) (pick s len (len - 1)) ≡ pick s τ (earlier τ)
  placed_is s len e =
      by_test
      s
      (λ h. ap (stack (mark_at τ)) (pick_true len (len - 1) h ∙ e) ∙ stack_begins whole ∙ sym (pick_true τ (earlier τ) h))
      (λ h. ap (stack (mark_at τ)) (pick-false len (len - 1) h ∙ less) ∙ beginning ∙ sym (pick-false τ (earlier τ) h))
    where
      less : len - 1 ≡ length (earlier τ)
      less = omega (arith, earlier-length τ)

      beginning : stack (mark_at τ) (length (earlier τ)) ≡ earlier τ
      beginning =
          subst
          (λ (ρ : List ℕ). stack (mark_at ρ) (length (earlier τ)) ≡ earlier τ)
          (sym split)
          (stack_begins (longer {x = last_of τ} whole))

  -- they stand
  pub placed_standing :
      (s : Bool) (len : ℕ) → len ≡ length τ → (s ≡ true → (rules_of P caps).valid τ ≡ true) →
      Standing (rules_of P caps) (stack (mark_at τ) (pick s len (len - 1)))
  placed_standing s len e fits =
      subst
      (λ (ρ : List ℕ). Standing (rules_of P caps) ρ)
      (sym (placed_is s len e))
      (by_test
      s
      (λ h. subst (λ (ρ : List ℕ). Standing (rules_of P caps) ρ) (sym (pick_true τ (earlier τ) h)) (record { within = legal.within; marks = legal.marks; fits = fits h; before = legal.before }))
      (λ h. subst (λ (ρ : List ℕ). Standing (rules_of P caps) ρ) (sym (pick-false τ (earlier τ) h)) before-standing))

  module _ {marks by left kinds tally sums loads : List ℕ} where
    pub placed_holds :
        (s : Bool) (len : ℕ) → len ≡ length τ → Holds P (marking P (pick s τ (earlier τ))) marks by left kinds tally sums loads →
        Holds P (marking P (stack (mark_at τ) (pick s len (len - 1)))) marks by left kinds tally sums loads
    placed_holds s len e h =
        subst (λ (ρ : List ℕ). Holds P (marking P ρ) marks by left kinds tally sums loads) (sym (placed_is s len e)) h

    -- those that are left after the trail has advanced
    pub lifted_holds :
        (first : Bool) (to : ℕ) → to ≡ length (advance first τ) - 1 →
        Holds P (marking P (stack (mark_at τ) to)) marks by left kinds tally sums loads →
        Holds P (marking P (earlier (advance first τ))) marks by left kinds tally sums loads
    lifted_holds first to e h =
        let d : to ≡ length (earlier (advance first τ)) = omega (arith, earlier-length (advance first τ)) in
        subst
        (λ (ρ : List ℕ). Holds P (marking P ρ) marks by left kinds tally sums loads)
        (ap (stack (mark_at τ)) d ∙ stack_begins (advance_begins first τ))
        h

  -- no more are left than were placed
  pub lifted_fewer :
      (first s : Bool) (len to : ℕ) → len ≡ length τ → to ≡ length (advance first τ) - 1 → to ≤ pick s len (len - 1)
  lifted_fewer first s len to e d =
      by_test
      s
      (λ h. omega (arith, pick_true len (len - 1) h, advance-length first τ))
      (λ h. omega (arith, pick-false len (len - 1) h, advance-length first τ))

  -- what a try with the last mark answers is said of the trail
  pub attempted_trail :
      {p best : ℕ} {t : Tried} {kept : Kept} →
      Attempted P caps (earlier τ) p best t kept → p ≡ last_of τ →
      (t.stands ≡ (rules_of P caps).valid τ and ltb ((rules_of P caps).bound τ) best)
      × (t.stands ≡ true → t.least ≡ (rules_of P caps).bound τ)
      × (t.looks ≡ looks_at (rules_of P caps) τ)
      × Keeps P (marking P (pick t.stands τ (earlier τ))) kept
  attempted_trail {p} {best} {t} {kept} a last =
      let R = rules_of P caps in
      let whole : p ∷ earlier τ ≡ τ = ap (◌∷ earlier τ) last ∙ sym split in (
        a.stands_is ∙ ap (λ (ρ : List ℕ). R.valid ρ and ltb (R.bound ρ) best) whole,
        (λ up. a.least_is up ∙ ap R.bound whole),
        a.looks_is ∙ ap (looks_at R) whole,
        subst (λ (ρ : List ℕ). Keeps P (marking P (pick t.stands ρ (earlier τ))) kept) whole a.holds,
      )

-- with the best count of a record it says whether the record's trail stands
pub stands_by :
    (R : Rules) (r : Record) (best : ℕ) {s : Bool} → s ≡ R.valid r.trail and ltb (R.bound r.trail) best → best ≡ r.best_count → s ≡ stands R r
unfolding stands
stands_by R r best e count = e ∙ ap (λ (b : ℕ). R.valid r.trail and ltb (R.bound r.trail) b) count
