-- Marks of a trail lifted one by one: each is a mark for the line at its place.
-- Assumes nothing.
use mathlib.Core.List.{List, ◌∷◌}
use mathlib.Core.Logic.{⊎_elim}
use mathlib.Core.Path.{◌≡◌, sym, ◌∙◌, ap, subst}
use Prim.Native.Nat.{ℕ, zero, suc, ◌+◌, ◌≤◌, ◌<◌}
use native.Mathlib.Nat.{eq-or-lt_of_le, le_of_suc-le-suc}
use native.Mathlib.Omega.{arith}
use lib.ListN.{length}
use Rattle.counting.proofs.Counted.{count_most}
use Rattle.trail.specs.Trail.{mark_room}
use Rattle.model.specs.declared.Caps.{Caps}
use Rattle.model.specs.Pattern.{Pattern, Inside, lines, nonempty, line_total}
use Rattle.model.specs.Marking.{marking}
use Rattle.model.specs.Walk.{Rules, rules_of}
use Rattle.model.specs.State.{stack}
use Rattle.model.proofs.Order.Places.{line_at, line_at_lem}
use Rattle.model.proofs.Order.SplitMarks.{stack-length}
use Rattle.model.proofs.Theorems.OfList.{rules_k, rules-valid}
use Rattle.crossing.specs.Crossing.{Laid}
use Rattle.keeping.specs.Kept.{marking_with, Holds, Placeable}
use Rattle.keeping.proofs.Holding.{holds_eq}
use Rattle.keeping.proofs.Placing.{placeable}
use Rattle.running.specs.Walking.{Standing}
use Rattle.running.proofs.Behind.{standing_shorter, standing_mark, marking-next, next_free, next-valid}

-- the first of the marks that stand do too
pub standing-first :
    {R : Rules} (mark : ℕ → ℕ) (at from : ℕ) → at ≤ from → Standing R (stack mark from) → Standing R (stack mark at)
unfolding stack
standing-first {R} mark at zero b s =
    let e : 0 ≡ at = omega arith in
    subst (λ (d : ℕ). Standing R (stack mark d)) e s
standing-first {R} mark at (suc from) b s =
    ⊎_elim
    (λ e. subst (λ (d : ℕ). Standing R (stack mark d)) (sym e) s)
    (λ c. standing-first mark at from (le_of_suc-le-suc c) (standing_shorter s))
    (eq-or-lt_of_le b)

-- there is a line for each of them
pub standing-room :
    (P : Pattern) (caps : Caps) (mark : ℕ → ℕ) (at from : ℕ) → at < from → Standing (rules_of P caps) (stack mark from) → at < line_total P
standing-room P caps mark at from b s = omega (arith, s.within, stack-length mark from, rules_k P caps)

-- and there are no more of them than a trail has room for
pub standing_few :
    {P : Pattern} {starts cross : List ℕ} (caps : Caps) (mark : ℕ → ℕ) (from : ℕ) → Laid P starts cross →
    Standing (rules_of P caps) (stack mark from) → from ≤ mark_room
unfolding line_total
standing_few {P} caps mark from laid s =
    omega (arith, s.within, stack-length mark from, rules_k P caps, count_most (nonempty P) (lines P), laid.few)

module _ {P : Pattern} (inside : Inside P) (caps : Caps) (mark : ℕ → ℕ) (d l : ℕ) (there : l ≡ line_at P d) (s : Standing (rules_of P caps) (stack mark (d + 1))) where
  one_more : stack mark (d + 1) ≡ mark d ∷ stack mark d
  unfolding stack
  one_more =
      let e : d + 1 ≡ suc d = omega arith in
      ap (stack mark) e

  standing : Standing (rules_of P caps) (mark d ∷ stack mark d)
  standing = subst (λ (τ : List ℕ). Standing (rules_of P caps) τ) one_more s

  room : length (stack mark d) < line_total P
  room = omega (arith, standing.within, rules_k P caps)

  line : l ≡ line_at P (length (stack mark d))
  line = there ∙ ap (line_at P) (sym (stack-length mark d))

  -- the mark could be placed on it
  pub place-next : Placeable P (marking P (stack mark d)) l (mark d)
  place-next =
      subst
      (λ (x : ℕ). Placeable P (marking P (stack mark d)) x (mark d))
      (sym line)
      (placeable
      caps
      (line_at_lem P (length (stack mark d)) room).inside
      (next_free P (stack mark d) room)
      (standing_mark standing)
      (next-valid P (stack mark d) room inside caps (mark d)
      ∙ rules-valid P caps (mark d ∷ stack mark d)
      ∙ standing.fits))

  same : (z : ℕ) → z < lines P → marking_with (marking P (stack mark d)) l (mark d) z ≡ marking P (stack mark (d + 1)) z
  same z b =
      ap (λ (x : ℕ). marking_with (marking P (stack mark d)) x (mark d) z) line
      ∙ marking-next P (stack mark d) room (mark d) z b
      ∙ ap (λ (τ : List ℕ). marking P τ z) (sym one_more)

  module _ {marks by left kinds tally sums loads : List ℕ} where
    -- with it all that is kept of one mark more is that of the marking with it
    pub lift_holds :
        Holds P (marking P (stack mark (d + 1))) marks by left kinds tally sums loads →
        Holds P (marking_with (marking P (stack mark d)) l (mark d)) marks by left kinds tally sums loads
    lift_holds h = holds_eq inside (marking_with (marking P (stack mark d)) l (mark d)) (λ z b. sym (same z b)) h
