-- The marks of a trail and one mark more, for the next line in order.
-- Assumes nothing.
use mathlib.Core.Bool.{Bool, true}
use mathlib.Core.List.{List, ◌∷◌}
use mathlib.Core.Path.{◌≡◌, sym, ◌∙◌, ap}
use Prim.Native.Nat.{ℕ, suc, ◌≤◌, ◌<◌}
use native.Mathlib.Omega.{arith}
use lib.Dec.{eqb, ltb, leb}
use lib.ListN.{length}
use borrow.Author.Tests.{eq-eqb, eqb-true, lt-ltb, ltb-true, ltb-false, le-leb, leb-true, leb-false}
use Rattle.counting.specs.Tests.{pick}
use Rattle.counting.proofs.Joined.{no_way, by_test, both_ways, or_left, and_left, and_right, and_intro}
use Rattle.model.specs.declared.Caps.{Caps}
use Rattle.model.specs.Limits.{line_limit}
use Rattle.model.specs.Pattern.{Pattern, Inside, lines, line_count, line_total}
use Rattle.model.specs.Marking.{unmarked, precedes, place, mark_at, marking, valid}
use Rattle.model.specs.Walk.{Rules}
use Rattle.model.specs.State.{are_marks, beginnings_valid}
use Rattle.model.proofs.Order.Places.{line_at, line_at_lem, place-apart, place_less}
use Rattle.model.proofs.Order.Marks.{mark_past, mark_small}
use Rattle.model.proofs.Alike.Patterns.{alike_self}
use Rattle.model.proofs.Alike.Marks.{AlikeMarks, inside_marks, valid_same}
use Rattle.keeping.specs.Kept.{marking_with}
use Rattle.running.specs.Judging.{Topped}
use Rattle.running.specs.Walking.{Standing}

-- without its last mark a marking that stands still stands
pub standing_shorter : {R : Rules} {x : ℕ} {τ : List ℕ} → Standing R (x ∷ τ) → Standing R τ
unfolding are_marks beginnings_valid
standing_shorter {R} {x} {τ} s =
    record {
      within = omega (arith, s.within);
      marks = and_right (leb x 2) (are_marks τ) s.marks;
      fits = and_left (R.valid τ) (beginnings_valid R τ) s.before;
      before = and_right (R.valid τ) (beginnings_valid R τ) s.before;
    }

-- its last mark is 0, 1 or cut
pub standing_mark : {R : Rules} {x : ℕ} {τ : List ℕ} → Standing R (x ∷ τ) → x ≤ 2
unfolding are_marks
standing_mark {R} {x} {τ} s = leb-true x 2 (and_left (leb x 2) (are_marks τ) s.marks)

-- one mark more, where the marking with it is valid
pub standing-longer : {R : Rules} {x : ℕ} {τ : List ℕ} → Standing R τ → length τ < R.k → x ≤ 2 → R.valid (x ∷ τ) ≡ true → Standing R (x ∷ τ)
unfolding are_marks beginnings_valid
standing-longer {R} {x} {τ} s room mark fits =
    record {
      within = omega arith;
      marks = and_intro (le-leb x 2 mark) s.marks;
      fits = fits;
      before = and_intro s.fits s.before;
    }

module _ (P : Pattern) (τ : List ℕ) (room : length τ < line_total P) where
  -- the next line in order
  abbrev next : ℕ
  next = line_at P (length τ)

  -- a line is the next in order exactly by its place
  next_place : (z : ℕ) → z < lines P → eqb z next ≡ eqb (place P z) (length τ)
  next_place z b =
      let l = line_at_lem P (length τ) room in
      both_ways
      (eqb z next)
      (eqb (place P z) (length τ))
      (λ e. eq-eqb (place P z) (length τ) (ap (place P) (eqb-true z next e) ∙ l.there))
      (λ e. eq-eqb z next (place-apart P z next b l.inside (eqb-true (place P z) (length τ) e ∙ sym l.there)))

  -- one mark more is a mark for the next line
  pub marking-next : (x z : ℕ) → z < lines P → marking_with (marking P τ) next x z ≡ marking P (x ∷ τ) z
  unfolding marking_with marking mark_at
  marking-next x z b = ap (λ (e : Bool). pick e x (mark_at τ (place P z))) (next_place z b)

  -- which has none
  pub next_free : marking P τ next ≡ unmarked
  unfolding marking
  next_free = mark_past τ (place P next) (omega (arith, (line_at_lem P (length τ) room).there))

  -- the marking with it is as valid as the trail with it
  pub next-valid : Inside P → (caps : Caps) (x : ℕ) → valid P caps (marking_with (marking P τ) next x) ≡ valid P caps (marking P (x ∷ τ))
  next-valid inside caps x =
      let k : AlikeMarks P P (marking_with (marking P τ) next x) (marking P (x ∷ τ)) = inside_marks inside (alike_self P) (marking-next x) in
      valid_same k caps

  -- no line that is unmarked then has more nonzeros than the next line
  pub next_topped : (x : ℕ) → are_marks (x ∷ τ) ≡ true → ((l : ℕ) → line_count P l ≤ line_limit) → Topped P (marking P (x ∷ τ)) (line_count P next)
  unfolding marking precedes
  next_topped x marks thin =
      record {
        light = thin next;
        above = λ l b free. by_test
            (leb (line_count P l) (line_count P next))
            (λ e. leb-true (line_count P l) (line_count P next) e)
            (λ e. no_way (omega (
              arith,
              free,
              (line_at_lem P (length τ) room).there,
              place_less P l next b (or_left _ (lt-ltb (line_count P next) (line_count P l) (leb-false (line_count P l) (line_count P next) e))),
              later l free,
            )));
      }
    where
      later : (l : ℕ) → unmarked ≤ mark_at (x ∷ τ) (place P l) → suc (length τ) ≤ place P l
      later l free =
          by_test
          (ltb (place P l) (suc (length τ)))
          (λ e. no_way (omega (arith, mark_small (x ∷ τ) (place P l) marks (ltb-true (place P l) (suc (length τ)) e))))
          (λ e. ltb-false (place P l) (suc (length τ)) e)
