-- A line can get a mark where the marking with it is valid.
-- Assumes nothing.
use mathlib.Core.Bool.{true}
use mathlib.Core.Path.{◌≡◌, refl, sym, ◌∙◌, ap}
use Prim.Native.Nat.{ℕ, ◌-◌, ◌≤◌, ◌<◌}
use native.Mathlib.Omega.{arith}
use borrow.Author.Tests.{eq-eqb, ne_eqb, eqb-true}
use lib.Dec.{eqb}
use Rattle.counting.specs.Tests.{pick, bit}
use Rattle.counting.proofs.Joined.{no_way, clash, by_test, or_left, or_right, or_passed, pick_true, pick-false, bit-false}
use Rattle.counting.proofs.Summed.{sum-zero}
use Rattle.model.specs.declared.Part.{Part}
use Rattle.model.specs.declared.Part.TheVariants.{Zero, One}
use Rattle.model.specs.declared.Mark.TheVariants.{Cut}
use Rattle.model.specs.declared.Caps.{Caps}
use Rattle.model.specs.Pattern.{Pattern, lines, row_line, column_line, on}
use Rattle.model.specs.Split.{part_number, other}
use Rattle.model.specs.Marking.{Marking, mark_number, unmarked, takes, valid}
use Rattle.model.proofs.Bound.Validity.{Valid, valid_is}
use Rattle.crossing.specs.Crossing.{across, over_line}
use Rattle.keeping.specs.Kept.{crossing_with, marking_with, Placeable}
use Rattle.keeping.proofs.Marked.{with_same, with_other, pick-zero}
use Rattle.keeping.proofs.MarkedLoads.{by_mark}

-- a part takes the nonzeros of a line with its mark
own-takes :
    (P : Pattern) (ν : Marking) (l t : ℕ) (p : Part) → on P l t ≡ true →
    ν l ≡ part_number p → takes P ν p t ≡ true
unfolding on takes
own-takes P ν l t p held own =
    by_test
    (eqb l (row_line P t))
    (λ e. or_left (eqb (ν (column_line P t)) (part_number p)) (marked (row_line P t) (eqb-true l (row_line P t) e)))
    (λ e. or_right
    (eqb (ν (row_line P t)) (part_number p))
    (marked (column_line P t) (eqb-true l (column_line P t) (sym (or_passed (eqb l (column_line P t)) e) ∙ held))))
  where
    marked : (z : ℕ) → l ≡ z → eqb (ν z) (part_number p) ≡ true
    marked z e = eq-eqb (ν z) (part_number p) (ap ν (sym e) ∙ own)

-- and those of a line that crosses one with its mark
across-takes :
    (P : Pattern) (ν : Marking) (l t : ℕ) (p : Part) → ν (across P l t) ≡ part_number p → takes P ν p t ≡ true
unfolding across takes
across-takes P ν l t p crossed =
    by_test
    (eqb l r)
    (λ e. or_right
    (eqb (ν r) (part_number p))
    (eq-eqb (ν c) (part_number p) (ap ν (sym (pick_true c r e)) ∙ crossed)))
    (λ e. or_left
    (eqb (ν c) (part_number p))
    (eq-eqb (ν r) (part_number p) (ap ν (sym (pick-false c r e)) ∙ crossed)))
  where
    r : ℕ
    r = row_line P t

    c : ℕ
    c = column_line P t

other-number : (p : Part) → 1 - part_number p ≡ part_number (other p)
unfolding other
other-number Zero = refl
other-number One = refl

-- no nonzero is taken by a part and the other
not_both :
    {P : Pattern} {caps : Caps} {ν : Marking} {A : Type 0} → Valid P caps ν → (p : Part) (t : ℕ) → t < P.size →
    takes P ν p t ≡ true → takes P ν (other p) t ≡ true → A
unfolding other
not_both fine Zero t b e f = clash f (fine.once t b e)
not_both fine One t b e f = clash e (fine.once t b f)

-- where the marking with part p for line l is valid, no line that crosses l has the other part
clear_of :
    {P : Pattern} {caps : Caps} (μ : Marking) (l : ℕ) (p : Part) → μ l ≡ unmarked →
    Valid P caps (marking_with μ l (part_number p)) → crossing_with P μ (1 - part_number p) l ≡ 0
unfolding crossing_with over_line
clear_of {P} μ l p free fine =
    sum-zero
    (λ t. pick (on P l t) (bit (eqb (μ (across P l t)) (1 - part_number p))) 0)
    P.size
    (λ t b. by_test
    (on P l t)
    (λ held. pick-zero
    (on P l t)
    (bit (eqb (μ (across P l t)) (1 - part_number p)))
    (bit-false
    (eqb (μ (across P l t)) (1 - part_number p))
    (ne_eqb
    (μ (across P l t))
    (1 - part_number p)
    (λ e. not_both
    fine
    p
    t
    b
    (own-takes P (marking_with μ l (part_number p)) l t p held (with_same μ l (part_number p) l refl))
    (across-takes
    P
    (marking_with μ l (part_number p))
    l
    t
    (other p)
    (with_other
    μ
    l
    (part_number p)
    (across P l t)
    (λ d. no_way (omega (arith, ap μ d)))
    ∙ e
    ∙ other-number p))))))
    (λ away. pick-false (bit (eqb (μ (across P l t)) (1 - part_number p))) 0 away))

-- a line that is unmarked can get a mark with which the marking is valid
pub placeable :
    {P : Pattern} (caps : Caps) {μ : Marking} {l p : ℕ} → l < lines P → μ l ≡ unmarked → p ≤ mark_number Cut →
    valid P caps (marking_with μ l p) ≡ true → Placeable P μ l p
placeable {P} caps {μ} {l} {p} line free mark fine =
    record {
      line = line;
      free = free;
      mark = mark;
      clear = λ b.
          by_mark
          (λ q. q < 2 → valid P caps (marking_with μ l q) ≡ true → crossing_with P μ (1 - q) l ≡ 0)
          (λ q c h. clear_of μ l q free (valid_is P caps (marking_with μ l (part_number q)) h))
          (λ c h. no_way (omega arith))
          p
          mark
          b
          fine;
    }
