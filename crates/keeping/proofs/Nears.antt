-- How the crossing lines of a line enter the counts of nonzeros by the kinds of both their lines.
-- Assumes nothing.
use mathlib.Core.Bool.{Bool, true, false}
use mathlib.Core.Path.{◌≡◌, refl, sym, ◌∙◌, ap}
use Prim.Native.Nat.{ℕ, zero, suc, ◌-◌, ◌≤◌, ◌<◌}
use native.Mathlib.Omega.{arith}
use borrow.Author.Tests.{eqb-true, eqb-false, ne_eqb, le-ltb}
use lib.Dec.{eqb, ltb}
use Rattle.counting.specs.Tests.{◌and◌, ◌or◌, pick, bit}
use Rattle.counting.proofs.Joined.{no_way, by_test, pick_true, pick-false, bit_le_one, bit-false, and_passed, and_fails_left, and-turned, or_eq, or_passed, or_fails}
use Rattle.counting.proofs.Summed.{sum_eq, sum-zero}
use Rattle.model.specs.Pattern.{Pattern, Inside, row_line, column_line, on, line_count}
use Rattle.crossing.specs.Crossing.{across, over_line}
use Rattle.crossing.proofs.Over.{lines-apart, over_eq, over_le, over_one}
use Rattle.keeping.specs.Kinds.{both_are, apart, near}

-- a line that crosses line y is another line
other_line : {P : Pattern} → Inside P → (y t : ℕ) → t < P.size → across P y t ≡ y → ⊥
unfolding across
other_line {P} inside y t b q =
    by_test
    (eqb y (row_line P t))
    (λ e. no_way (omega (
      arith,
      q,
      pick_true (column_line P t) (row_line P t) e,
      eqb-true y (row_line P t) e,
      lines-apart inside t b,
    )))
    (λ e. eqb-false y (row_line P t) e (omega (arith, q, pick-false (column_line P t) (row_line P t) e)))

-- so a line's own term does not matter in the sum over its nonzeros
pub over_but :
    {P : Pattern} → Inside P → (y : ℕ) (f g : ℕ → ℕ) →
    ((z : ℕ) → (z ≡ y → ⊥) → f z ≡ g z) → over_line P y f ≡ over_line P y g
unfolding over_line
over_but {P} inside y f g h =
    sum_eq
    (λ t. pick (on P y t) (f (across P y t)) 0)
    (λ t. pick (on P y t) (g (across P y t)) 0)
    P.size
    (λ t b. ap (λ (z : ℕ). pick (on P y t) z 0) (h (across P y t) (other_line inside y t b)))

-- nor its own kind for the kinds of its crossing lines
pub near_but :
    {P : Pattern} → Inside P → (kind kind' : ℕ → ℕ) (p y : ℕ) →
    ((z : ℕ) → (z ≡ y → ⊥) → kind z ≡ kind' z) → near P kind p y ≡ near P kind' p y
unfolding near
near_but inside kind kind' p y h =
    over_but
    inside
    y
    (λ z. bit (eqb (kind z) p))
    (λ z. bit (eqb (kind' z) p))
    (λ z n. ap (λ (k : ℕ). bit (eqb k p)) (h z n))

-- no more crossing lines of a kind than nonzeros
pub near_few : {P : Pattern} → Inside P → (kind : ℕ → ℕ) (p y : ℕ) → near P kind p y ≤ line_count P y
unfolding near
near_few {P} inside kind p y =
    omega (
      arith,
      over_le inside y (λ z. bit (eqb (kind z) p)) (λ z. 1) (λ z b. bit_le_one (eqb (kind z) p)),
      over_one P y,
    )

over_none : (P : Pattern) (l : ℕ) (f : ℕ → ℕ) → ((z : ℕ) → f z ≡ 0) → over_line P l f ≡ 0
unfolding over_line
over_none P l f h =
    sum-zero
    (λ t. pick (on P l t) (f (across P l t)) 0)
    P.size
    (λ t b. ap (λ (z : ℕ). pick (on P l t) z 0) (h (across P l t)) ∙ none (on P l t))
  where
    none : (b : Bool) → pick {A = ℕ} b 0 0 ≡ 0
    none b = by_test b (λ e. pick_true 0 0 e) (λ e. pick-false 0 0 e)

pub both_even : (p a b : ℕ) → both_are p a b ≡ both_are p b a
unfolding both_are
both_even p a b = ap bit (and-turned (eqb a p) (eqb b p))

or_turned : (a b : Bool) → a or b ≡ b or a
unfolding ◌or◌
or_turned true true = refl
or_turned true false = refl
or_turned false true = refl
or_turned false false = refl

pub apart_even : (a b : ℕ) → apart a b ≡ apart b a
unfolding apart
apart_even a b =
    ap
    bit
    (or_eq (and-turned (eqb a 0) (eqb b 1)) (and-turned (eqb a 1) (eqb b 0))
    ∙ or_turned (eqb b 1 and eqb a 0) (eqb b 0 and eqb a 1))

-- the nonzeros of line y, of kind k, whose other line has kind p too
pub both_near :
    {P : Pattern} → Inside P → (kind : ℕ → ℕ) (p k y : ℕ) →
    over_line P y (λ z. both_are p k (kind z)) ≡ pick (eqb k p) (near P kind p y) 0
unfolding near both_are
both_near {P} inside kind p k y =
    by_test
    (eqb k p)
    (λ e. over_eq
    inside
    y
    (λ z. bit (eqb k p and eqb (kind z) p))
    (λ z. bit (eqb (kind z) p))
    (λ z b. ap bit (and_passed (eqb (kind z) p) e))
    ∙ sym (pick_true (over_line P y (λ z. bit (eqb (kind z) p))) 0 e))
    (λ e. over_none
    P
    y
    (λ z. bit (eqb k p and eqb (kind z) p))
    (λ z. bit-false (eqb k p and eqb (kind z) p) (and_fails_left (eqb (kind z) p) e))
    ∙ sym (pick-false (over_line P y (λ z. bit (eqb (kind z) p))) 0 e))

or-none : (a : Bool) → bit (a or false) ≡ bit a
unfolding ◌or◌
or-none true = refl
or-none false = refl

apart_none : (k b : ℕ) → 2 ≤ k → apart k b ≡ 0
unfolding apart
apart_none k b h =
    bit-false
    ((eqb k 0 and eqb b 1) or (eqb k 1 and eqb b 0))
    (or_fails
    (and_fails_left (eqb b 1) (ne_eqb k 0 (λ q. no_way (omega arith))))
    (and_fails_left (eqb b 0) (ne_eqb k 1 (λ q. no_way (omega arith)))))

-- the nonzeros of line y, of kind k, whose other line leans to the other part
pub apart-near :
    {P : Pattern} → Inside P → (kind : ℕ → ℕ) (k y : ℕ) →
    over_line P y (λ z. apart k (kind z)) ≡ pick (ltb k 2) (near P kind (1 - k) y) 0
unfolding near apart pick ◌and◌
apart-near inside kind zero y =
    over_eq inside y (λ z. apart 0 (kind z)) (λ z. bit (eqb (kind z) 1)) (λ z b. or-none (eqb (kind z) 1))
apart-near inside kind (suc zero) y =
    over_eq inside y (λ z. apart 1 (kind z)) (λ z. bit (eqb (kind z) 0)) (λ z b. ap bit (or_passed (eqb (kind z) 0) refl))
apart-near {P} inside kind (suc (suc k)) y =
    over_none P y (λ z. apart (suc (suc k)) (kind z)) (λ z. apart_none (suc (suc k)) (kind z) (omega arith))
    ∙ sym (pick-false (near P kind (1 - suc (suc k)) y) 0 (le-ltb (suc (suc k)) 2 (omega arith)))
