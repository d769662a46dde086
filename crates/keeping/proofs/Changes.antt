-- How what is counted of lines and of nonzeros changes with the kind and the untaken nonzeros of one line.
-- Assumes nothing.
use mathlib.Core.Bool.{true, false}
use mathlib.Core.Logic.{⊎_elim}
use mathlib.Core.Path.{◌≡◌, sym, ◌∙◌, ap}
use Prim.Native.Nat.{ℕ, zero, suc, ◌+◌, ◌<◌}
use native.Mathlib.Nat.{eq-or-lt_of_le, le_of_suc-le-suc}
use native.Mathlib.Omega.{arith}
use borrow.Author.Tests.{eqb-true, eqb-false}
use lib.Dec.{eqb}
use Rattle.counting.specs.Tests.{◌and◌, ◌or◌, pick, bit}
use Rattle.counting.specs.Sums.{sum}
use Rattle.counting.proofs.Joined.{no_way, by_test, pick_true, pick-false, and_eq, or_left, or_right, or_fails}
use Rattle.counting.proofs.Summed.{sum_eq, sum_add}
use Rattle.model.specs.Pattern.{Pattern, Inside, lines, row_line, column_line, on}
use Rattle.crossing.specs.Crossing.{across, over_line}
use Rattle.crossing.proofs.Over.{lines-apart}
use Rattle.keeping.specs.Kinds.{tally_of, leaning_left, torn_of, pairs}

-- two sums whose terms differ at one number only
pub sum_at :
    (f g : ℕ → ℕ) (n y : ℕ) → y < n → ((l : ℕ) → l < n → (l ≡ y → ⊥) → f l ≡ g l) →
    sum f n + g y ≡ sum g n + f y
unfolding sum
sum_at f g zero y b h = no_way (omega arith)
sum_at f g (suc n) y b h =
    ⊎_elim
    (λ e. omega (arith, ap f e, ap g e, sum_eq f g n (λ l c. h l (omega arith) (λ q. no_way (omega arith)))))
    (λ c. omega (arith, sum_at f g n y c (λ l d q. h l (omega arith) q), h n (omega arith) (λ q. no_way (omega arith))))
    (eq-or-lt_of_le (le_of_suc-le-suc b))

-- two pairs of kinds and untaken nonzeros that are equal but at line y
module _ (P : Pattern) (kind left kind' left' : ℕ → ℕ) (y : ℕ) (line : y < lines P) (same_kind : (l : ℕ) → (l ≡ y → ⊥) → kind' l ≡ kind l) (same_left : (l : ℕ) → (l ≡ y → ⊥) → left' l ≡ left l) where
  pub tally_change :
      (p x : ℕ) →
      tally_of P kind' left' p x + bit (eqb (kind y) p and eqb (left y) x)
      ≡ tally_of P kind left p x + bit (eqb (kind' y) p and eqb (left' y) x)
  unfolding tally_of
  tally_change p x =
      sum_at
      (λ l. bit (eqb (kind' l) p and eqb (left' l) x))
      (λ l. bit (eqb (kind l) p and eqb (left l) x))
      (lines P)
      y
      line
      (λ l b n. ap bit (and_eq (ap (λ (z : ℕ). eqb z p) (same_kind l n)) (ap (λ (z : ℕ). eqb z x) (same_left l n))))

  pub left_change :
      (p : ℕ) →
      leaning_left P kind' left' p + pick (eqb (kind y) p) (left y) 0
      ≡ leaning_left P kind left p + pick (eqb (kind' y) p) (left' y) 0
  unfolding leaning_left
  left_change p =
      sum_at
      (λ l. pick (eqb (kind' l) p) (left' l) 0)
      (λ l. pick (eqb (kind l) p) (left l) 0)
      (lines P)
      y
      line
      (λ l b n. ap (λ (z : ℕ). pick (eqb z p) (left' l) 0) (same_kind l n) ∙ ap (λ (z : ℕ). pick (eqb (kind l) p) z 0) (same_left l n))

  pub torn_change : torn_of P kind' + bit (eqb (kind y) 3) ≡ torn_of P kind + bit (eqb (kind' y) 3)
  unfolding torn_of
  torn_change =
      sum_at
      (λ l. bit (eqb (kind' l) 3))
      (λ l. bit (eqb (kind l) 3))
      (lines P)
      y
      line
      (λ l b n. ap (λ (z : ℕ). bit (eqb z 3)) (same_kind l n))

-- one nonzero: what a number of the kinds of its lines is before and after line y gets another kind
module _ (P : Pattern) (inside : Inside P) (h : ℕ → ℕ → ℕ) (even : (a b : ℕ) → h a b ≡ h b a) (k k' : ℕ → ℕ) (y : ℕ) (same : (l : ℕ) → (l ≡ y → ⊥) → k' l ≡ k l) where
  pair_at :
      (t : ℕ) → t < P.size →
      h (k' (row_line P t)) (k' (column_line P t)) + pick (on P y t) (h (k y) (k (across P y t))) 0
      ≡ h (k (row_line P t)) (k (column_line P t)) + pick (on P y t) (h (k' y) (k (across P y t))) 0
  unfolding on across
  pair_at t b =
      by_test
      (eqb y (row_line P t))
      (λ e. in_row (eqb-true y (row_line P t) e) e)
      (λ e. by_test
      (eqb y (column_line P t))
      (λ f. in_column (eqb-true y (column_line P t) f) e f)
      (λ f. elsewhere e f))
    where
      r : ℕ
      r = row_line P t

      c : ℕ
      c = column_line P t

      in_row : y ≡ r → eqb y r ≡ true → h (k' r) (k' c) + pick (eqb y r or eqb y c) (h (k y) (k (pick (eqb y r) c r))) 0 ≡ h (k r) (k c) + pick (eqb y r or eqb y c) (h (k' y) (k (pick (eqb y r) c r))) 0
      in_row e d =
          let w : k' c ≡ k c = same c (λ q. no_way (omega (arith, lines-apart inside t b))) in
          let v : eqb y r or eqb y c ≡ true = or_left (eqb y c) d in
          let u : pick (eqb y r) c r ≡ c = pick_true c r d in
          omega (
            arith,
            ap (λ z. h (k' z) (k' c)) e,
            ap (λ z. h (k z) (k c)) e,
            ap (h (k' y)) w,
            pick_true (h (k y) (k (pick (eqb y r) c r))) 0 v,
            pick_true (h (k' y) (k (pick (eqb y r) c r))) 0 v,
            ap (λ z. h (k y) (k z)) u,
            ap (λ z. h (k' y) (k z)) u,
          )

      in_column : y ≡ c → eqb y r ≡ false → eqb y c ≡ true → h (k' r) (k' c) + pick (eqb y r or eqb y c) (h (k y) (k (pick (eqb y r) c r))) 0 ≡ h (k r) (k c) + pick (eqb y r or eqb y c) (h (k' y) (k (pick (eqb y r) c r))) 0
      in_column e n d =
          let w : k' r ≡ k r = same r (λ q. no_way (omega (arith, lines-apart inside t b))) in
          let v : eqb y r or eqb y c ≡ true = or_right (eqb y r) d in
          let u : pick (eqb y r) c r ≡ r = pick-false c r n in
          omega (
            arith,
            ap (λ z. h (k' r) (k' z)) e,
            ap (λ z. h (k r) (k z)) e,
            ap (λ z. h z (k' y)) w,
            even (k r) (k' y),
            even (k r) (k y),
            pick_true (h (k y) (k (pick (eqb y r) c r))) 0 v,
            pick_true (h (k' y) (k (pick (eqb y r) c r))) 0 v,
            ap (λ z. h (k y) (k z)) u,
            ap (λ z. h (k' y) (k z)) u,
          )

      elsewhere : eqb y r ≡ false → eqb y c ≡ false → h (k' r) (k' c) + pick (eqb y r or eqb y c) (h (k y) (k (pick (eqb y r) c r))) 0 ≡ h (k r) (k c) + pick (eqb y r or eqb y c) (h (k' y) (k (pick (eqb y r) c r))) 0
      elsewhere n d =
          let w : k' r ≡ k r = same r (λ q. eqb-false y r n (sym q)) in
          let x : k' c ≡ k c = same c (λ q. eqb-false y c d (sym q)) in
          let v : eqb y r or eqb y c ≡ false = or_fails n d in
          omega (
            arith,
            ap (λ z. h z (k' c)) w,
            ap (h (k r)) x,
            pick-false (h (k y) (k (pick (eqb y r) c r))) 0 v,
            pick-false (h (k' y) (k (pick (eqb y r) c r))) 0 v,
          )

  -- a sum over nonzeros of a number of the kinds of both lines, where line y gets another kind
  pub pair_change :
      pairs P h k' + over_line P y (λ z. h (k y) (k z)) ≡ pairs P h k + over_line P y (λ z. h (k' y) (k z))
  unfolding pairs over_line
  pair_change =
      sym (sum_add (λ t. h (k' (row_line P t)) (k' (column_line P t))) (λ t. pick (on P y t) (h (k y) (k (across P y t))) 0) P.size)
      ∙ sum_eq
      (λ t. h (k' (row_line P t)) (k' (column_line P t)) + pick (on P y t) (h (k y) (k (across P y t))) 0)
      (λ t. h (k (row_line P t)) (k (column_line P t)) + pick (on P y t) (h (k' y) (k (across P y t))) 0)
      P.size
      pair_at
      ∙ sum_add (λ t. h (k (row_line P t)) (k (column_line P t))) (λ t. pick (on P y t) (h (k' y) (k (across P y t))) 0) P.size
