-- A marking with one mark more: the nonzeros that each part takes, and the cut lines.
-- Assumes nothing.
use mathlib.Core.Bool.{Bool, true, false}
use mathlib.Core.Path.{◌≡◌, refl, sym, ◌∙◌, ap}
use Prim.Native.Nat.{ℕ, ◌+◌, ◌-◌, ◌<◌}
use native.Mathlib.Omega.{arith}
use borrow.Author.Tests.{eq-eqb, ne_eqb, eqb-true, eqb-false, leb-true, leb-false}
use lib.Dec.{eqb, leb}
use Rattle.counting.specs.Tests.{◌or◌, pick, bit}
use Rattle.counting.specs.Sums.{sum, count}
use Rattle.counting.proofs.Joined.{no_way, by_test, or_left, or_right, or_passed, or_fails, or_eq, pick_true, pick-false, bit-true, bit-false}
use Rattle.counting.proofs.Summed.{sum_eq, sum_add, sum-zero, sum_term, sum-only}
use Rattle.counting.proofs.Counted.{count_eq}
use Rattle.model.specs.declared.Part.{Part}
use Rattle.model.specs.declared.Part.TheVariants.{Zero, One}
use Rattle.model.specs.declared.Mark.TheVariants.{Cut}
use Rattle.model.specs.Pattern.{Pattern, Inside, lines, row_line, column_line, on}
use Rattle.model.specs.Split.{part_number}
use Rattle.model.specs.Marking.{Marking, mark_number, unmarked, takes, taken, condition}
use Rattle.model.specs.Bound.{L1, says_cut}
use Rattle.model.proofs.Bound.Conditions.{cut_is}
use Rattle.crossing.specs.Crossing.{across, over_line}
use Rattle.crossing.proofs.Over.{pick-bit}
use Rattle.keeping.specs.Kept.{crossing_with, crossing_open, marking_with, Placeable}
use Rattle.keeping.proofs.Marked.{with_same, with_other, mark_more}

pub part_below : (q : Part) → part_number q < 2
part_below Zero = omega arith
part_below One = omega arith

-- a mark that is not of the other part is of this part, or cut, or none
part_or_open : (x n : ℕ) → n < 2 → (x ≡ 1 - n → ⊥) → bit (eqb x n) + bit (leb 2 x) ≡ 1
part_or_open x n b h =
    by_test
    (leb 2 x)
    (λ e. omega (
      arith,
      bit-true (leb 2 x) e,
      bit-false (eqb x n) (ne_eqb x n (λ d. no_way (omega (arith, leb-true 2 x e)))),
    ))
    (λ e. omega (
      arith,
      bit-false (leb 2 x) e,
      bit-true (eqb x n) (eq-eqb x n (omega (arith, h, leb-false 2 x e))),
    ))

or_alone : (a b : Bool) → b ≡ false → a or b ≡ a
unfolding ◌or◌
or_alone true b h = refl
or_alone false b h = h

-- no nonzero of line l is taken by the other part
module _ (P : Pattern) (inside : Inside P) (μ : Marking) (l n : ℕ) (part : n < 2) (free : μ l ≡ unmarked) (clear : crossing_with P μ (1 - n) l ≡ 0) where
  not-other : (t : ℕ) → t < P.size → on P l t ≡ true → μ (across P l t) ≡ 1 - n → ⊥
  unfolding crossing_with over_line
  not-other t b held e =
      no_way (omega (
        arith,
        sum_term (λ s. pick (on P l s) (bit (eqb (μ (across P l s)) (1 - n))) 0) P.size t b,
        clear,
        pick_true (bit (eqb (μ (across P l t)) (1 - n))) 0 held,
        bit-true (eqb (μ (across P l t)) (1 - n)) (eq-eqb (μ (across P l t)) (1 - n) e),
      ))

  takes_at :
      (t : ℕ) → t < P.size →
      bit (eqb (marking_with μ l n (row_line P t)) n or eqb (marking_with μ l n (column_line P t)) n)
      ≡ bit (eqb (μ (row_line P t)) n or eqb (μ (column_line P t)) n)
      + pick (on P l t) (bit (leb 2 (μ (across P l t)))) 0
  unfolding on across
  takes_at t b =
      by_test
      (eqb l r)
      (λ e. let held : on P l t ≡ true = or_left (eqb l c) e in
      let d : l ≡ r = eqb-true l r e in
      let u : across P l t ≡ c = pick_true c r e in
      omega (
        arith,
        bit-true (eqb (ν r) n or eqb (ν c) n) (or_left (eqb (ν c) n) (gets r (sym d))),
        ap bit (or_passed (eqb (μ c) n) (had_none r (sym d))),
        pick_true (bit (leb 2 (μ (across P l t)))) 0 held,
        ap (λ z. bit (leb 2 (μ z))) u,
        part_or_open (μ c) n part (λ q. not-other t b held (ap μ u ∙ q)),
      ))
      (λ e. by_test
      (eqb l c)
      (λ f. let held : on P l t ≡ true = or_right (eqb l r) f in
      let d : l ≡ c = eqb-true l c f in
      let u : across P l t ≡ r = pick-false c r e in
      omega (
        arith,
        bit-true (eqb (ν r) n or eqb (ν c) n) (or_right (eqb (ν r) n) (gets c (sym d))),
        ap bit (or_alone (eqb (μ r) n) (eqb (μ c) n) (had_none c (sym d))),
        pick_true (bit (leb 2 (μ (across P l t)))) 0 held,
        ap (λ z. bit (leb 2 (μ z))) u,
        part_or_open (μ r) n part (λ q. not-other t b held (ap μ u ∙ q)),
      ))
      (λ f. omega (
        arith,
        ap
            bit
            (or_eq
            (ap (λ z. eqb z n) (with_other μ l n r (λ q. eqb-false l r e (sym q))))
            (ap (λ z. eqb z n) (with_other μ l n c (λ q. eqb-false l c f (sym q))))),
        pick-false (bit (leb 2 (μ (across P l t)))) 0 (or_fails e f),
      )))
    where
      r : ℕ
      r = row_line P t

      c : ℕ
      c = column_line P t

      ν : Marking
      ν = marking_with μ l n

      gets : (z : ℕ) → z ≡ l → eqb (ν z) n ≡ true
      gets z e = eq-eqb (ν z) n (with_same μ l n z e)

      had_none : (z : ℕ) → z ≡ l → eqb (μ z) n ≡ false
      had_none z e = ne_eqb (μ z) n (λ q. no_way (omega (arith, ap μ e)))

-- part q, which line l gets, takes the line's nonzeros whose crossing lines are cut or unmarked
pub taken_more :
    {P : Pattern} → Inside P → (μ : Marking) (l : ℕ) (q : Part) → μ l ≡ unmarked →
    crossing_with P μ (1 - part_number q) l ≡ 0 →
    taken P (marking_with μ l (part_number q)) q ≡ taken P μ q + crossing_open P μ l
unfolding taken takes crossing_open over_line
taken_more {P} inside μ l q free clear =
    sum_eq
    (λ t. bit (takes P (marking_with μ l (part_number q)) q t))
    (λ t. bit (takes P μ q t) + pick (on P l t) (bit (leb 2 (μ (across P l t)))) 0)
    P.size
    (takes_at P inside μ l (part_number q) (part_below q) free clear)
    ∙ sum_add (λ t. bit (takes P μ q t)) (λ t. pick (on P l t) (bit (leb 2 (μ (across P l t)))) 0) P.size

-- a part that line l does not get takes what it took
pub taken_same :
    (P : Pattern) (μ : Marking) (l p : ℕ) (q : Part) → μ l ≡ unmarked → (part_number q ≡ p → ⊥) →
    taken P (marking_with μ l p) q ≡ taken P μ q
unfolding taken takes
taken_same P μ l p q free n =
    count_eq
    (takes P (marking_with μ l p) q)
    (takes P μ q)
    P.size
    (λ t b. or_eq (same (row_line P t)) (same (column_line P t)))
  where
    same : (z : ℕ) → eqb (marking_with μ l p z) (part_number q) ≡ eqb (μ z) (part_number q)
    same z =
        by_test
        (eqb z l)
        (λ e. let d : z ≡ l = eqb-true z l e in
        ne_eqb (marking_with μ l p z) (part_number q) (λ r. n (sym r ∙ with_same μ l p z d))
        ∙ sym (ne_eqb (μ z) (part_number q) (λ r. no_way (omega (arith, part_below q, ap μ d)))))
        (λ e. ap (λ x. eqb x (part_number q)) (with_other μ l p z (eqb-false z l e)))

-- one line is line l
one_line : (l n : ℕ) → l < n → count (λ z. eqb z l) n ≡ 1
one_line l n b =
    sum-only (λ z. bit (eqb z l)) n l b (λ z c d. bit-false (eqb z l) (ne_eqb z l d))
    ∙ bit-true (eqb l l) (eq-eqb l l refl)

sum-pick : (b : Bool) (f : ℕ → ℕ) (n : ℕ) → sum (λ z. pick b (f z) 0) n ≡ pick b (sum f n) 0
unfolding pick
sum-pick true f n = refl
sum-pick false f n = sum-zero (λ z. 0) n (λ z b. refl)

pub cut_lines : (P : Pattern) (μ : Marking) → L1 P μ ≡ sum (λ z. bit (eqb (μ z) (mark_number Cut))) (lines P)
unfolding L1
cut_lines P μ =
    count_eq (λ z. says_cut (condition P μ z)) (λ z. eqb (μ z) (mark_number Cut)) (lines P) (λ z b. cut_is P μ z)

-- the cut lines, where line l gets mark p
pub cuts_marked :
    {P : Pattern} {μ : Marking} {l p : ℕ} → Placeable P μ l p →
    L1 P (marking_with μ l p) ≡ L1 P μ + bit (eqb 2 p)
cuts_marked {P} {μ} {l} {p} place =
    omega (
      arith,
      cut_lines P (marking_with μ l p),
      cut_lines P μ,
      sum_eq
          (λ z. bit (eqb (marking_with μ l p z) 2))
          (λ z. bit (eqb (μ z) 2) + pick (eqb 2 p) (bit (eqb z l)) 0)
          (lines P)
          (λ z b. mark_more μ l p 2 z place.free (omega arith)),
      sum_add (λ z. bit (eqb (μ z) 2)) (λ z. pick (eqb 2 p) (bit (eqb z l)) 0) (lines P),
      sum-pick (eqb 2 p) (λ z. bit (eqb z l)) (lines P),
      ap (λ (x : ℕ). pick (eqb 2 p) x 0) (one_line l (lines P) place.line),
      pick-bit (eqb 2 p),
    )
