-- The marks of a valid marking placed line by line: each can be, and those of all lines make the marking.
-- Assumes nothing.
use mathlib.Core.Bool.{true}
use mathlib.Core.List.{List, []}
use mathlib.Core.Path.{◌≡◌, sym, ◌∙◌, ap, subst}
use Prim.Native.Nat.{ℕ, ◌+◌, ◌≤◌, ◌<◌, min}
use native.Mathlib.Omega.{arith}
use lib.Dec.{eqb, ltb}
use borrow.Author.Tests.{eqb-true, eqb-false, ltb-true, ltb-false, lt-ltb, le-ltb}
use Rattle.counting.proofs.Joined.{no_way, by_test, pick_true, pick-false}
use Rattle.model.specs.declared.Caps.{Caps}
use Rattle.model.specs.Pattern.{Pattern, Inside, lines}
use Rattle.model.specs.Marking.{Marking, marking, place, unmarked, valid}
use Rattle.model.proofs.Bound.Extended.{Extends, valid_begins}
use Rattle.model.proofs.Order.Marks.{mark_none}
use Rattle.keeping.specs.Kept.{marking_with, Holds}
use Rattle.keeping.proofs.Marked.{with_same, with_other}
use Rattle.keeping.proofs.Holding.{holds_eq}
use Rattle.keeping.proofs.Placing.{placeable}
use Rattle.running.specs.Laying.{first_marks, Settable}

-- a line before l has its mark, if it is one
pub first-before : (μ : Marking) (l z : ℕ) → z < l → first_marks μ l z ≡ min (μ z) unmarked
unfolding first_marks
first-before μ l z b = pick_true (min (μ z) unmarked) unmarked (lt-ltb z l b)

-- the others are unmarked
first_behind : (μ : Marking) (l z : ℕ) → l ≤ z → first_marks μ l z ≡ unmarked
unfolding first_marks
first_behind μ l z b = pick-false (min (μ z) unmarked) unmarked (le-ltb z l b)

-- one line more
first_next : (μ : Marking) (l z : ℕ) → marking_with (first_marks μ l) l (min (μ l) unmarked) z ≡ first_marks μ (l + 1) z
first_next μ l z =
    by_test
    (eqb z l)
    (λ e. let d : z ≡ l = eqb-true z l e in
    with_same (first_marks μ l) l (min (μ l) unmarked) z d
    ∙ ap (λ (x : ℕ). min (μ x) unmarked) (sym d)
    ∙ sym (first-before μ (l + 1) z (omega arith)))
    (λ e. with_other (first_marks μ l) l (min (μ l) unmarked) z (eqb-false z l e) ∙ same (eqb-false z l e))
  where
    same : (z ≡ l → ⊥) → first_marks μ l z ≡ first_marks μ (l + 1) z
    same n =
        by_test
        (ltb z l)
        (λ e. let b = ltb-true z l e in
        first-before μ l z b ∙ sym (first-before μ (l + 1) z (omega arith)))
        (λ e. let b = ltb-false z l e in
        first_behind μ l z b ∙ sym (first_behind μ (l + 1) z (omega arith)))

-- the marking has these marks
first_extends : (P : Pattern) (μ : Marking) (l : ℕ) → Extends P (first_marks μ l) μ
first_extends P μ l =
    record {
      same = λ z b h.
          by_test
          (ltb z l)
          (λ e. omega (arith, first-before μ l z (ltb-true z l e)))
          (λ e. no_way (omega (arith, first_behind μ l z (ltb-false z l e))));
    }

-- so they are valid where it is
pub first-valid :
    {P : Pattern} (caps : Caps) (μ : Marking) (l : ℕ) → Inside P → valid P caps μ ≡ true → valid P caps (first_marks μ l) ≡ true
first-valid {P} caps μ l inside fits = valid_begins P caps (first_marks μ l) μ inside (first_extends P μ l) fits

-- and the next line can get its mark
pub first_settable :
    {P : Pattern} (caps : Caps) (μ : Marking) (l p : ℕ) → Inside P → valid P caps μ ≡ true → l < lines P → p ≡ μ l →
    Settable P (first_marks μ l) l p
first_settable {P} caps μ l p inside fits line e =
    record {
      free = free;
      placeable = λ b. placeable caps line free (omega arith) (valid_begins P caps (marking_with (first_marks μ l) l p) μ inside (more b) fits);
    }
  where
    free : first_marks μ l l ≡ unmarked
    free = first_behind μ l l (omega arith)

    more : p < unmarked → Extends P (marking_with (first_marks μ l) l p) μ
    more b =
        record {
          same = λ z c h.
              let d : p ≡ min (μ l) unmarked = omega arith in
              let f = ap (λ (x : ℕ). marking_with (first_marks μ l) l x z) d ∙ first_next μ l z in
              (first_extends P μ (l + 1)).same z c (omega (arith, f)) ∙ sym f;
        }

module _ {P : Pattern} (inside : Inside P) {marks by left kinds tally sums loads : List ℕ} where
  -- before the first line no line is marked
  pub holds-first :
      (μ : Marking) → Holds P (marking P []) marks by left kinds tally sums loads →
      Holds P (first_marks μ 0) marks by left kinds tally sums loads
  unfolding marking
  holds-first μ h = holds_eq inside (first_marks μ 0) (λ z b. mark_none (place P z) ∙ sym (first_behind μ 0 z (omega arith))) h

  -- one line more has got its mark
  pub holds-next :
      (μ : Marking) (l p : ℕ) → p ≡ μ l →
      Holds P (marking_with (first_marks μ l) l (min p unmarked)) marks by left kinds tally sums loads →
      Holds P (first_marks μ (l + 1)) marks by left kinds tally sums loads
  holds-next μ l p e h =
      holds_eq
      inside
      (first_marks μ (l + 1))
      (λ z b. ap (λ (x : ℕ). marking_with (first_marks μ l) l (min x unmarked) z) e ∙ first_next μ l z)
      h

  -- each line has: with numbers that are marks, or 3 for none, it is the marking
  pub holds-given :
      (μ : Marking) (end : ℕ) → end ≡ lines P → ((l : ℕ) → l < lines P → μ l ≤ unmarked) →
      Holds P (first_marks μ end) marks by left kinds tally sums loads → Holds P μ marks by left kinds tally sums loads
  holds-given μ end e known h = holds_eq inside μ (λ z b. omega (arith, first-before μ end z (omega arith), known z b)) h

  -- a line gets the mark p
  pub holds-set :
      (μ : Marking) (l p : ℕ) → p < unmarked →
      Holds P (marking_with μ l p) marks by left kinds tally sums loads →
      Holds P (marking_with μ l (min p unmarked)) marks by left kinds tally sums loads
  holds-set μ l p b h =
      let e : p ≡ min p unmarked = omega arith in
      subst (λ (x : ℕ). Holds P (marking_with μ l x) marks by left kinds tally sums loads) e h

  -- or it stays unmarked
  pub holds_unset :
      (μ : Marking) (l p : ℕ) → unmarked ≤ p → μ l ≡ unmarked → Holds P μ marks by left kinds tally sums loads →
      Holds P (marking_with μ l (min p unmarked)) marks by left kinds tally sums loads
  holds_unset μ l p b free h =
      holds_eq
      inside
      (marking_with μ l (min p unmarked))
      (λ z c. by_test
      (eqb z l)
      (λ e. let d : z ≡ l = eqb-true z l e in
      omega (arith, ap μ d, with_same μ l (min p unmarked) z d))
      (λ e. sym (with_other μ l (min p unmarked) z (eqb-false z l e))))
      h
