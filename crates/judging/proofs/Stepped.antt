-- A valid marking with one mark more: where it is valid.
-- Assumes nothing.
use mathlib.Core.Bool.{true, false}
use mathlib.Core.Path.{◌≡◌, refl, sym, ◌∙◌, ap}
use Prim.Native.Nat.{ℕ, ◌+◌, ◌-◌, ◌≤◌, ◌<◌}
use native.Mathlib.Omega.{arith}
use borrow.Author.Tests.{eqb-true, eqb-false, eq-eqb, ne_eqb, le-leb, leb-true}
use lib.Dec.{eqb, leb}
use Rattle.counting.specs.Tests.{◌and◌}
use Rattle.counting.specs.Sums.{count}
use Rattle.counting.proofs.Joined.{no_way, clash, by_test, fails, both_ways, and_intro, and_left, and_right, or_fails_left, or_fails_right, or_eq}
use Rattle.counting.proofs.Counted.{count_eq, count-some}
use Rattle.model.specs.declared.Part.{Part}
use Rattle.model.specs.declared.Part.TheVariants.{Zero, One}
use Rattle.model.specs.declared.Mark.TheVariants.{Cut}
use Rattle.model.specs.declared.Caps.{Caps}
use Rattle.model.specs.Pattern.{Pattern, Inside, lines, row_line, column_line, on}
use Rattle.model.specs.Split.{part_number, other, cap_of}
use Rattle.model.specs.Marking.{Marking, mark_number, unmarked, takes, taken, valid}
use Rattle.model.proofs.Bound.Validity.{Valid, valid_is, is-valid}
use Rattle.keeping.specs.Kept.{crossing_with, crossing_open, marking_with}
use Rattle.keeping.proofs.Marked.{with_same, with_other}
use Rattle.keeping.proofs.MarkedTaken.{part_below, taken_more}
use Rattle.keeping.proofs.Placing.{placeable}
use Rattle.judging.proofs.Crossed.{not_part, taken_crossing}

-- the number of the other part
other-number : (q : Part) → part_number (other q) ≡ 1 - part_number q
unfolding other
other-number Zero = refl
other-number One = refl

other-apart : (q : Part) → part_number (other q) ≡ part_number q → ⊥
unfolding other
other-apart Zero e = omega arith
other-apart One e = omega arith

cut_apart : (q : Part) → part_number q ≡ mark_number Cut → ⊥
cut_apart Zero e = omega arith
cut_apart One e = omega arith

-- validity for a part and the other
valid-apart : (P : Pattern) (caps : Caps) (ν : Marking) → Valid P caps ν → (q : Part) (t : ℕ) → t < P.size → takes P ν q t ≡ true → takes P ν (other q) t ≡ false
unfolding other
valid-apart P caps ν v Zero t b e = v.once t b e
valid-apart P caps ν v One t b e = fails (takes P ν Zero t) (λ z. clash e (v.once t b z))

apart-valid :
    (P : Pattern) (caps : Caps) (ν : Marking) (q : Part) →
    ((t : ℕ) → t < P.size → takes P ν q t ≡ true → takes P ν (other q) t ≡ false) →
    count (takes P ν q) P.size ≤ cap_of caps q → count (takes P ν (other q)) P.size ≤ cap_of caps (other q) → Valid P caps ν
unfolding other
apart-valid P caps ν Zero apart own else = record { once = apart; fits = fits }
  where
    fits : (p : Part) → count (takes P ν p) P.size ≤ cap_of caps p
    fits Zero = own
    fits One = else
apart-valid P caps ν One apart own else =
    record { once = λ t b e. fails (takes P ν One t) (λ z. clash e (apart t b z)); fits = fits }
  where
    fits : (p : Part) → count (takes P ν p) P.size ≤ cap_of caps p
    fits Zero = else
    fits One = own

module _ (P : Pattern) (μ : Marking) (l : ℕ) (free : μ l ≡ unmarked) where
  -- a part that line l does not get takes what it took
  takes_same : (p : ℕ) (q : Part) → (part_number q ≡ p → ⊥) → (t : ℕ) → takes P (marking_with μ l p) q t ≡ takes P μ q t
  unfolding takes
  takes_same p q n t = or_eq (same (row_line P t)) (same (column_line P t))
    where
      same : (z : ℕ) → eqb (marking_with μ l p z) (part_number q) ≡ eqb (μ z) (part_number q)
      same z =
          by_test
          (eqb z l)
          (λ e. let d : z ≡ l = eqb-true z l e in
          ne_eqb (marking_with μ l p z) (part_number q) (λ r. n (sym r ∙ with_same μ l p z d))
          ∙ sym (not_part q (μ z) (omega (arith, ap μ d))))
          (λ e. ap (λ (x : ℕ). eqb x (part_number q)) (with_other μ l p z (eqb-false z l e)))

  -- the part that line l gets takes what it took of the nonzeros that the line does not hold
  takes_old : (q : Part) (t : ℕ) → on P l t ≡ false → takes P (marking_with μ l (part_number q)) q t ≡ takes P μ q t
  unfolding takes on
  takes_old q t e =
      or_eq
      (kept (row_line P t) (or_fails_left (eqb l (row_line P t)) (eqb l (column_line P t)) e))
      (kept (column_line P t) (or_fails_right (eqb l (row_line P t)) (eqb l (column_line P t)) e))
    where
      kept : (z : ℕ) → eqb l z ≡ false → eqb (marking_with μ l (part_number q) z) (part_number q) ≡ eqb (μ z) (part_number q)
      kept z f = ap (λ (x : ℕ). eqb x (part_number q)) (with_other μ l (part_number q) z (λ d. eqb-false l z f (sym d)))

  -- no nonzero of line l is taken by the other part, by the crossing lines
  clear_untaken : (q : Part) → crossing_with P μ (part_number q) l ≡ 0 → (t : ℕ) → t < P.size → on P l t ≡ true → takes P μ q t ≡ false
  clear_untaken q clear t b e =
      fails
      (takes P μ q t)
      (λ h. no_way (omega (
        arith,
        count-some (λ s. on P l s and takes P μ q s) P.size t b (and_intro e h),
        taken_crossing P μ q l (omega arith),
      )))

  module _ (caps : Caps) (meets : valid P caps μ ≡ true) where
    -- with a cut line more a valid marking is valid
    pub cut_valid : valid P caps (marking_with μ l (mark_number Cut)) ≡ true
    cut_valid =
        is-valid P caps ν (record {
          once = λ t b e. same One t ∙ v.once t b (sym (same Zero t) ∙ e);
          fits = λ q. omega (arith, count_eq (takes P ν q) (takes P μ q) P.size (λ t b. same q t), v.fits q);
        })
      where
        ν : Marking
        ν = marking_with μ l (mark_number Cut)

        v : Valid P caps μ
        v = valid_is P caps μ meets

        same : (q : Part) (t : ℕ) → takes P ν q t ≡ takes P μ q t
        same q t = takes_same (mark_number Cut) q (cut_apart q) t

    module _ (i : Inside P) (q : Part) where
      load-more :
          crossing_with P μ (1 - part_number q) l ≡ 0 →
          count (takes P (marking_with μ l (part_number q)) q) P.size ≡ taken P μ q + crossing_open P μ l
      unfolding taken
      load-more clear = taken_more i μ l q free clear

      clear_valid :
          crossing_with P μ (1 - part_number q) l ≡ 0 → taken P μ q + crossing_open P μ l ≤ cap_of caps q →
          valid P caps (marking_with μ l (part_number q)) ≡ true
      clear_valid clear room =
          is-valid P caps ν (apart-valid P caps ν q apart (omega (arith, load-more clear)) (omega (
            arith,
            count_eq (takes P ν (other q)) (takes P μ (other q)) P.size (λ t b. same t),
            v.fits (other q),
          )))
        where
          ν : Marking
          ν = marking_with μ l (part_number q)

          v : Valid P caps μ
          v = valid_is P caps μ meets

          same : (t : ℕ) → takes P ν (other q) t ≡ takes P μ (other q) t
          same t = takes_same (part_number q) (other q) (other-apart q) t

          apart : (t : ℕ) → t < P.size → takes P ν q t ≡ true → takes P ν (other q) t ≡ false
          apart t b e =
              same t
              ∙ by_test
              (on P l t)
              (λ o. clear_untaken (other q) (ap (λ (x : ℕ). crossing_with P μ x l) (other-number q) ∙ clear) t b o)
              (λ o. valid-apart P caps μ v q t b (sym (takes_old q t o) ∙ e))

      -- with line l marked with part q a valid marking is valid just if no crossing line is marked with the other part and the load fits
      pub part_valid :
          l < lines P →
          valid P caps (marking_with μ l (part_number q))
          ≡ eqb (crossing_with P μ (1 - part_number q) l) 0 and leb (taken P μ q + crossing_open P μ l) (cap_of caps q)
      part_valid line =
          both_ways
          (valid P caps (marking_with μ l (part_number q)))
          (eqb (crossing_with P μ (1 - part_number q) l) 0 and leb (taken P μ q + crossing_open P μ l) (cap_of caps q))
          (λ h. let clear = (placeable caps line free (omega (arith, part_below q)) h).clear (part_below q) in
          and_intro
          (eq-eqb _ 0 clear)
          (le-leb
          (taken P μ q + crossing_open P μ l)
          (cap_of caps q)
          (omega (arith, load-more clear, (valid_is P caps (marking_with μ l (part_number q)) h).fits q))))
          (λ h. clear_valid
          (eqb-true _ 0 (and_left _ _ h))
          (leb-true (taken P μ q + crossing_open P μ l) (cap_of caps q) (and_right (eqb (crossing_with P μ (1 - part_number q) l) 0) _ h)))
