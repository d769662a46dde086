-- A marking with one mark more: how many crossing lines of each line have each mark, or none; the law is that of any numbers of lines.
-- Assumes nothing.
use mathlib.Core.Bool.{Bool, true, false}
use mathlib.Core.Path.{◌≡◌, refl, sym, ◌∙◌, ap}
use Prim.Native.Nat.{ℕ, ◌+◌, ◌≤◌, ◌<◌}
use native.Mathlib.Omega.{arith}
use borrow.Author.Tests.{eq-eqb, ne_eqb, eqb-true, eqb-false, ltb-true, ltb-false, lt-ltb, le-leb, lt-leb}
use lib.Dec.{eqb, ltb, leb}
use Rattle.counting.specs.Tests.{pick, bit}
use Rattle.counting.proofs.Joined.{no_way, by_test, pick_true, pick-false, bit-true, bit-false, bit_le_one}
use Rattle.model.specs.Pattern.{Pattern, Inside, line_count}
use Rattle.model.specs.Marking.{Marking, unmarked}
use Rattle.crossing.specs.Crossing.{over_line}
use Rattle.crossing.proofs.Over.{over_eq, over_le, over_add, over_one, eqb-turned, pick-bit, meets-back}
use Rattle.keeping.specs.Kept.{crossing_with, crossing_open, meets, marking_with}

-- the line has the mark that it got
pub with_same : (μ : Marking) (l p z : ℕ) → z ≡ l → marking_with μ l p z ≡ p
unfolding marking_with
with_same μ l p z e = pick_true p (μ z) (eq-eqb z l e)

-- every other line has the mark that it had
pub with_other : (μ : Marking) (l p z : ℕ) → (z ≡ l → ⊥) → marking_with μ l p z ≡ μ z
unfolding marking_with
with_other μ l p z n = pick-false p (μ z) (ne_eqb z l n)

-- a number that is picked or 0
pub pick-zero : (b : Bool) (x : ℕ) → x ≡ 0 → pick b x 0 ≡ 0
unfolding pick
pick-zero true x e = e
pick-zero false x e = refl

over_zero : (P : Pattern) (y : ℕ) → over_line P y (λ z. 0) ≡ 0
over_zero P y = omega (arith, over_add P y (λ z. 0) (λ z. 0))

-- a test that does not look at the crossing line
over_pick :
    (P : Pattern) (y : ℕ) (b : Bool) (f : ℕ → ℕ) →
    over_line P y (λ z. pick b (f z) 0) ≡ pick b (over_line P y f) 0
unfolding pick
over_pick P y true f = refl
over_pick P y false f = over_zero P y

-- numbers f and g of lines that are equal but at line l, where g is not q: a line has number q in f where it has it in g, or where it is line l
module _ (f g : ℕ → ℕ) (l q : ℕ) (same : (z : ℕ) → (z ≡ l → ⊥) → f z ≡ g z) (none : g l ≡ q → ⊥) where
  number_more : (z : ℕ) → bit (eqb (f z) q) ≡ bit (eqb (g z) q) + pick (eqb (f l) q) (bit (eqb z l)) 0
  number_more z =
      by_test
      (eqb z l)
      (λ e. let d : z ≡ l = eqb-true z l e in
      omega (
        arith,
        ap (λ x. bit (eqb (f x) q)) d,
        ap (λ x. bit (eqb (g x) q)) d,
        bit-false (eqb (g l) q) (ne_eqb (g l) q none),
        bit-true (eqb z l) e,
        pick-bit (eqb (f l) q),
        ap (λ (x : ℕ). pick (eqb (f l) q) x 0) (bit-true (eqb z l) e),
      ))
      (λ e. omega (
        arith,
        ap (λ x. bit (eqb x q)) (same z (eqb-false z l e)),
        pick-zero (eqb (f l) q) (bit (eqb z l)) (bit-false (eqb z l) e),
      ))

  -- so the crossing lines of a line with number q in f are those in g, and line l where the two lines meet
  pub over_number :
      {P : Pattern} → Inside P → (y : ℕ) →
      over_line P y (λ z. bit (eqb (f z) q))
      ≡ over_line P y (λ z. bit (eqb (g z) q)) + pick (eqb (f l) q) (meets P l y) 0
  unfolding meets
  over_number {P} inside y =
      over_eq
      inside
      y
      (λ z. bit (eqb (f z) q))
      (λ z. bit (eqb (g z) q) + pick (eqb (f l) q) (bit (eqb z l)) 0)
      (λ z c. number_more z)
      ∙ over_add P y (λ z. bit (eqb (g z) q)) (λ z. pick (eqb (f l) q) (bit (eqb z l)) 0)
      ∙ ap
      (λ x. over_line P y (λ z. bit (eqb (g z) q)) + x)
      (over_pick P y (eqb (f l) q) (λ z. bit (eqb z l))
      ∙ ap (λ (x : ℕ). pick (eqb (f l) q) x 0) (meets-back inside y l))

-- the line that gets mark p has mark q where the two are one
got_mark : (μ : Marking) (l p q : ℕ) → eqb (marking_with μ l p l) q ≡ eqb q p
got_mark μ l p q = ap (λ (x : ℕ). eqb x q) (with_same μ l p l refl) ∙ eqb-turned p q

-- a line has mark q where it had it, or where it is the line that gets it
pub mark_more :
    (μ : Marking) (l p q z : ℕ) → μ l ≡ unmarked → q < unmarked →
    bit (eqb (marking_with μ l p z) q) ≡ bit (eqb (μ z) q) + pick (eqb q p) (bit (eqb z l)) 0
mark_more μ l p q z free b =
    number_more (marking_with μ l p) μ l q (with_other μ l p) (λ e. no_way (omega arith)) z
    ∙ ap (λ (t : Bool). bit (eqb (μ z) q) + pick t (bit (eqb z l)) 0) (got_mark μ l p q)

-- a line that was cut or unmarked still is, unless it gets a part
open_less :
    (μ : Marking) (l p z : ℕ) → μ l ≡ unmarked →
    bit (leb 2 (marking_with μ l p z)) + pick (ltb p 2) (bit (eqb z l)) 0 ≡ bit (leb 2 (μ z))
open_less μ l p z free =
    by_test
    (eqb z l)
    (λ e. let d : z ≡ l = eqb-true z l e in
    let f : μ z ≡ unmarked = ap μ d ∙ free in
    let w : marking_with μ l p z ≡ p = with_same μ l p z d in
    let o : bit (leb 2 (μ z)) ≡ 1 = bit-true (leb 2 (μ z)) (le-leb 2 (μ z) (omega arith)) in
    by_test
    (ltb p 2)
    (λ part. omega (
      arith,
      bit-false
          (leb 2 (marking_with μ l p z))
          (lt-leb 2 (marking_with μ l p z) (omega (arith, ltb-true p 2 part))),
      pick_true (bit (eqb z l)) 0 part,
      bit-true (eqb z l) e,
    ))
    (λ cut. omega (
      arith,
      bit-true
          (leb 2 (marking_with μ l p z))
          (le-leb 2 (marking_with μ l p z) (omega (arith, ltb-false p 2 cut))),
      pick-false (bit (eqb z l)) 0 cut,
    )))
    (λ e. omega (
      arith,
      ap (λ x. bit (leb 2 x)) (with_other μ l p z (eqb-false z l e)),
      pick-zero (ltb p 2) (bit (eqb z l)) (bit-false (eqb z l) e),
    ))

-- the crossing lines with mark q of a line, where line l gets mark p
pub crossing_marked :
    {P : Pattern} → Inside P → (μ : Marking) (l p q y : ℕ) → μ l ≡ unmarked → q < 2 →
    crossing_with P (marking_with μ l p) q y ≡ crossing_with P μ q y + pick (eqb q p) (meets P l y) 0
unfolding crossing_with
crossing_marked {P} inside μ l p q y free b =
    over_number (marking_with μ l p) μ l q (with_other μ l p) (λ e. no_way (omega arith)) inside y
    ∙ ap (λ (t : Bool). crossing_with P μ q y + pick t (meets P l y) 0) (got_mark μ l p q)

-- the crossing lines of a line that are cut or unmarked, where line l gets mark p
pub open_marked :
    {P : Pattern} → Inside P → (μ : Marking) (l p y : ℕ) → μ l ≡ unmarked →
    crossing_open P (marking_with μ l p) y + pick (ltb p 2) (meets P l y) 0 ≡ crossing_open P μ y
unfolding crossing_open meets
open_marked {P} inside μ l p y free =
    ap
    (λ x. crossing_open P (marking_with μ l p) y + x)
    (sym (over_pick P y (ltb p 2) (λ z. bit (eqb z l))
    ∙ ap (λ (x : ℕ). pick (ltb p 2) x 0) (meets-back inside y l)))
    ∙ sym (over_add P y (λ z. bit (leb 2 (marking_with μ l p z))) (λ z. pick (ltb p 2) (bit (eqb z l)) 0))
    ∙ over_eq
    inside
    y
    (λ z. bit (leb 2 (marking_with μ l p z)) + pick (ltb p 2) (bit (eqb z l)) 0)
    (λ z. bit (leb 2 (μ z)))
    (λ z c. open_less μ l p z free)

-- no more crossing lines have a mark than the line has nonzeros
pub crossing_most :
    {P : Pattern} → Inside P → (μ : Marking) (q y : ℕ) → crossing_with P μ q y ≤ line_count P y
unfolding crossing_with
crossing_most {P} inside μ q y =
    omega (
      arith,
      over_one P y,
      over_le inside y (λ z. bit (eqb (μ z) q)) (λ z. 1) (λ z c. bit_le_one (eqb (μ z) q)),
    )

-- nor are more cut or unmarked
pub open_most : {P : Pattern} → Inside P → (μ : Marking) (y : ℕ) → crossing_open P μ y ≤ line_count P y
unfolding crossing_open
open_most {P} inside μ y =
    omega (
      arith,
      over_one P y,
      over_le inside y (λ z. bit (leb 2 (μ z))) (λ z. 1) (λ z c. bit_le_one (leb 2 (μ z))),
    )

-- nor does the line share more with another
pub meets_most : {P : Pattern} → Inside P → (l y : ℕ) → meets P l y ≤ line_count P l
unfolding meets
meets_most {P} inside l y =
    omega (
      arith,
      over_one P l,
      over_le inside l (λ z. bit (eqb z y)) (λ z. 1) (λ z c. bit_le_one (eqb z y)),
    )

-- the nonzeros that a line shares with an unmarked line are among those of cut or unmarked crossing lines
pub meets_open :
    {P : Pattern} → Inside P → (μ : Marking) (l y : ℕ) → μ l ≡ unmarked → meets P l y ≤ crossing_open P μ y
meets_open {P} inside μ l y free =
    omega (
      arith,
      open_marked inside μ l 0 y free,
      pick_true (meets P l y) 0 (lt-ltb 0 2 (omega arith)),
    )
