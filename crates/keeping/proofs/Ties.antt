-- What is tied to the kinds of lines stays tied where a line leaves, enters, or has one untaken nonzero more or less.
-- Assumes nothing.
use mathlib.Core.Bool.{false}
use mathlib.Core.List.{List}
use mathlib.Core.Path.{◌≡◌, refl, sym, ◌∙◌, ap}
use Prim.Native.Nat.{ℕ, ◌+◌, ◌-◌, ◌≤◌, ◌<◌}
use native.Mathlib.Omega.{arith}
use borrow.Author.Tests.{eq-eqb, ne_eqb, eqb-true, eqb-false, ltb-true, le-ltb}
use lib.Dec.{eqb, ltb}
use Rattle.counting.specs.Tests.{◌and◌, pick, bit}
use Rattle.counting.proofs.Joined.{no_way, by_test, pick_true, pick-false, bit-false, and_eq, and_fails_left}
use Rattle.counting.proofs.Summed.{sum_eq}
use Rattle.model.specs.Limits.{line_room}
use Rattle.model.specs.Pattern.{Pattern, Inside, lines, row_line, column_line}
use Rattle.crossing.specs.Crossing.{over_line}
use Rattle.crossing.proofs.Over.{row_inside, column_inside, over_eq}
use Rattle.keeping.specs.Kinds.{tally_of, leaning_left, torn_of, pairs, both_are, apart, near, without}
use Rattle.keeping.specs.Tied.{weight_room, Tied, both_place, torn_place, conflicts_place}
use Rattle.keeping.specs.Moves.{Adds, Moves, Nears}
use Rattle.keeping.specs.Kept.{meets}
use Rattle.keeping.proofs.Marked.{over_number}
use Rattle.keeping.proofs.Changes.{tally_change, left_change, torn_change, pair_change}
use Rattle.keeping.proofs.Nears.{both_even, apart_even, both_near, apart-near}

pub without-own : (y : ℕ) (kind : ℕ → ℕ) → without y kind y ≡ 2
unfolding without
without-own y kind = pick_true 2 (kind y) (eq-eqb y y refl)

pub without_other : (y : ℕ) (kind : ℕ → ℕ) (z : ℕ) → (z ≡ y → ⊥) → without y kind z ≡ kind z
unfolding without
without_other y kind z n = pick-false 2 (kind z) (ne_eqb z y n)

-- kinds that are equal but at line y are equal without it
pub without_same :
    (y : ℕ) (kind kind' : ℕ → ℕ) → ((z : ℕ) → (z ≡ y → ⊥) → kind z ≡ kind' z) →
    (z : ℕ) → without y kind z ≡ without y kind' z
unfolding without
without_same y kind kind' h z =
    by_test
    (eqb z y)
    (λ e. pick_true 2 (kind z) e ∙ sym (pick_true 2 (kind' z) e))
    (λ e. ap (λ (x : ℕ). pick (eqb z y) 2 x) (h z (eqb-false z y e)))

-- kinds and untaken nonzeros that are equal at every line
module _ {P : Pattern} (inside : Inside P) {kind left kind' left' : ℕ → ℕ} (same_kind : (l : ℕ) → l < lines P → kind' l ≡ kind l) (same_left : (l : ℕ) → l < lines P → left' l ≡ left l) where
  tally_same : (p x : ℕ) → tally_of P kind' left' p x ≡ tally_of P kind left p x
  unfolding tally_of
  tally_same p x =
      sum_eq
      (λ l. bit (eqb (kind' l) p and eqb (left' l) x))
      (λ l. bit (eqb (kind l) p and eqb (left l) x))
      (lines P)
      (λ l b. ap bit (and_eq (ap (λ (z : ℕ). eqb z p) (same_kind l b)) (ap (λ (z : ℕ). eqb z x) (same_left l b))))

  left_same : (p : ℕ) → leaning_left P kind' left' p ≡ leaning_left P kind left p
  unfolding leaning_left
  left_same p =
      sum_eq
      (λ l. pick (eqb (kind' l) p) (left' l) 0)
      (λ l. pick (eqb (kind l) p) (left l) 0)
      (lines P)
      (λ l b. ap (λ (z : ℕ). pick (eqb z p) (left' l) 0) (same_kind l b)
      ∙ ap (λ (z : ℕ). pick (eqb (kind l) p) z 0) (same_left l b))

  torn_same : torn_of P kind' ≡ torn_of P kind
  unfolding torn_of
  torn_same =
      sum_eq
      (λ l. bit (eqb (kind' l) 3))
      (λ l. bit (eqb (kind l) 3))
      (lines P)
      (λ l b. ap (λ (z : ℕ). bit (eqb z 3)) (same_kind l b))

  pairs_same : (h : ℕ → ℕ → ℕ) → pairs P h kind' ≡ pairs P h kind
  unfolding pairs
  pairs_same h =
      sum_eq
      (λ t. h (kind' (row_line P t)) (kind' (column_line P t)))
      (λ t. h (kind (row_line P t)) (kind (column_line P t)))
      P.size
      (λ t b. ap (λ (z : ℕ). h z (kind' (column_line P t))) (same_kind (row_line P t) (row_inside inside t b))
      ∙ ap (h (kind (row_line P t))) (same_kind (column_line P t) (column_inside inside t b)))

  near_eq : (p y : ℕ) → near P kind' p y ≡ near P kind p y
  unfolding near
  near_eq p y =
      over_eq
      inside
      y
      (λ z. bit (eqb (kind' z) p))
      (λ z. bit (eqb (kind z) p))
      (λ z b. ap (λ (k : ℕ). bit (eqb k p)) (same_kind z b))

  -- have the same tied to them
  pub tied_eq : {tally sums : List ℕ} → Tied P kind left tally sums → Tied P kind' left' tally sums
  tied_eq tied =
      record {
        tally_long = tied.tally_long;
        sums_long = tied.sums_long;
        light = λ l b. omega (arith, tied.light l b, same_left l b);
        tally_is = λ p x b d. tied.tally_is p x b d ∙ sym (tally_same p x);
        near_is = λ p y b d. tied.near_is p y b d ∙ sym (near_eq p y);
        left_is = λ p b. tied.left_is p b ∙ sym (left_same p);
        both_is = λ p b. tied.both_is p b ∙ sym (pairs_same (both_are p));
        torn_is = tied.torn_is ∙ sym torn_same;
        conflicts_is = tied.conflicts_is ∙ sym (pairs_same apart);
      }

-- what line y adds to the counts without it
module _ {P : Pattern} (inside : Inside P) (kind left : ℕ → ℕ) (y : ℕ) (line : y < lines P) where
  other_kind : (p : ℕ) → (2 ≡ p → ⊥) → eqb (without y kind y) p ≡ false
  other_kind p n = ne_eqb (without y kind y) p (λ q. n (sym (without-own y kind) ∙ q))

  tally_with :
      (p x : ℕ) → p < 2 →
      tally_of P kind left p x ≡ tally_of P (without y kind) left p x + bit (eqb (kind y) p and eqb (left y) x)
  tally_with p x b =
      omega (
        arith,
        tally_change P kind left (without y kind) left y line (without_other y kind) (λ l m. refl) p x,
        bit-false (eqb (without y kind y) p and eqb (left y) x) (and_fails_left (eqb (left y) x) (other_kind p (λ q. no_way (omega arith)))),
      )

  left_with :
      (p : ℕ) → p < 2 →
      leaning_left P kind left p ≡ leaning_left P (without y kind) left p + pick (eqb (kind y) p) (left y) 0
  left_with p b =
      omega (
        arith,
        left_change P kind left (without y kind) left y line (without_other y kind) (λ l m. refl) p,
        pick-false (left y) 0 (other_kind p (λ q. no_way (omega arith))),
      )

  torn_with : torn_of P kind ≡ torn_of P (without y kind) + bit (eqb (kind y) 3)
  torn_with =
      omega (
        arith,
        torn_change P kind left (without y kind) left y line (without_other y kind) (λ l m. refl),
        bit-false (eqb (without y kind y) 3) (other_kind 3 (λ q. no_way (omega arith))),
      )

  pub both_with :
      (p : ℕ) → p < 2 →
      pairs P (both_are p) kind
      ≡ pairs P (both_are p) (without y kind) + pick (eqb (kind y) p) (near P kind p y) 0
  both_with p b =
      omega (
        arith,
        pair_change P inside (both_are p) (both_even p) kind (without y kind) y (without_other y kind),
        both_near inside kind p (kind y) y,
        both_near inside kind p (without y kind y) y,
        pick-false (near P kind p y) 0 (other_kind p (λ q. no_way (omega arith))),
      )

  pub conflicts_with :
      pairs P apart kind
      ≡ pairs P apart (without y kind) + pick (ltb (kind y) 2) (near P kind (1 - kind y) y) 0
  conflicts_with =
      omega (
        arith,
        pair_change P inside apart apart_even kind (without y kind) y (without_other y kind),
        apart-near inside kind (kind y) y,
        ap (λ (k : ℕ). over_line P y (λ z. apart k (kind z))) (without-own y kind),
        apart-near inside kind 2 y,
        pick-false (near P kind (1 - 2) y) 0 (le-ltb 2 2 (omega arith)),
      )

  -- each line has line y among its crossing lines where the two meet
  pub near_with :
      (p z : ℕ) → p < 2 →
      near P kind p z ≡ near P (without y kind) p z + pick (eqb (kind y) p) (meets P y z) 0
  unfolding near
  near_with p z b =
      over_number
      kind
      (without y kind)
      y
      p
      (λ x n. sym (without_other y kind x n))
      (λ e. no_way (omega (arith, without-own y kind)))
      inside
      z

  -- a tally and sums of line y: with it or without
  module _ {same other : ℕ} (few : lines P ≤ line_room) (same_is : kind y < 2 → same ≡ near P kind (kind y) y) (other-is : kind y < 2 → other ≡ near P kind (1 - kind y) y) {tally tally₁ sums tally' sums' : List ℕ} (nears : Nears (kind y) (meets P y) tally tally₁) (adds : Adds (kind y) (left y) same other tally₁ sums tally' sums') where
    near_same : (p : ℕ) → p < 2 → pick (eqb (kind y) p) same 0 ≡ pick (eqb (kind y) p) (near P kind p y) 0
    near_same p b =
        by_test
        (eqb (kind y) p)
        (λ e. let q : kind y ≡ p = eqb-true (kind y) p e in
        omega (
          arith,
          same_is (omega arith),
          ap (λ (k : ℕ). near P kind k y) q,
          pick_true same 0 e,
          pick_true (near P kind p y) 0 e,
        ))
        (λ e. pick-false same 0 e ∙ sym (pick-false (near P kind p y) 0 e))

    apart_same : pick (ltb (kind y) 2) other 0 ≡ pick (ltb (kind y) 2) (near P kind (1 - kind y) y) 0
    apart_same =
        by_test
        (ltb (kind y) 2)
        (λ e. ap (λ (x : ℕ). pick (ltb (kind y) 2) x 0) (other-is (ltb-true (kind y) 2 e)))
        (λ e. pick-false other 0 e ∙ sym (pick-false (near P kind (1 - kind y) y) 0 e))

    pub tied_enters : Tied P (without y kind) left tally sums → Tied P kind left tally' sums'
    tied_enters tied =
        record {
          tally_long = adds.tally_long ∙ nears.long ∙ tied.tally_long;
          sums_long = adds.sums_long ∙ tied.sums_long;
          light = tied.light;
          tally_is = λ p x b d. omega (arith, adds.tally_adds p x b d, nears.tally_stays p x b d, tied.tally_is p x b d, tally_with p x b);
          near_is = λ p z b d. omega (arith, adds.near_stays p z b (omega arith), nears.near_adds p z b (omega arith), tied.near_is p z b d, near_with p z b);
          left_is = λ p b. omega (arith, adds.left_adds p b, tied.left_is p b, left_with p b);
          both_is = λ p b. omega (arith, adds.both_adds p b, tied.both_is p b, both_with p b, near_same p b);
          torn_is = omega (arith, adds.torn_adds, tied.torn_is, torn_with);
          conflicts_is = omega (arith, adds.conflicts_adds, tied.conflicts_is, conflicts_with, apart_same);
        }

    pub tied_leaves : Tied P kind left tally' sums' → Tied P (without y kind) left tally sums
    tied_leaves tied =
        record {
          tally_long = sym nears.long ∙ sym adds.tally_long ∙ tied.tally_long;
          sums_long = sym adds.sums_long ∙ tied.sums_long;
          light = tied.light;
          tally_is = λ p x b d. omega (arith, adds.tally_adds p x b d, nears.tally_stays p x b d, tied.tally_is p x b d, tally_with p x b);
          near_is = λ p z b d. omega (arith, adds.near_stays p z b (omega arith), nears.near_adds p z b (omega arith), tied.near_is p z b d, near_with p z b);
          left_is = λ p b. omega (arith, adds.left_adds p b, tied.left_is p b, left_with p b);
          both_is = λ p b. omega (arith, adds.both_adds p b, tied.both_is p b, both_with p b, near_same p b);
          torn_is = omega (arith, adds.torn_adds, tied.torn_is, torn_with);
          conflicts_is = omega (arith, adds.conflicts_adds, tied.conflicts_is, conflicts_with, apart_same);
        }

-- line y has another number of untaken nonzeros
pub tied_moves :
    {P : Pattern} {tally sums tally' sums' : List ℕ} (kind left left' : ℕ → ℕ) (y : ℕ) → lines P ≤ line_room → y < lines P →
    left' y < weight_room → ((l : ℕ) → (l ≡ y → ⊥) → left' l ≡ left l) →
    Moves (kind y) (left y) (left' y) tally sums tally' sums' →
    Tied P kind left tally sums → Tied P kind left' tally' sums'
tied_moves {P} kind left left' y few line small same moves tied =
    record {
      tally_long = moves.tally_long ∙ tied.tally_long;
      sums_long = moves.sums_long ∙ tied.sums_long;
      light = λ l b. by_test (eqb l y) (λ e. omega (arith, ap left' (eqb-true l y e))) (λ e. omega (arith, same l (eqb-false l y e), tied.light l b));
      tally_is = λ p x b d. omega (arith, moves.tally_moves p x b d, tied.tally_is p x b d, tally_change P kind left kind left' y line (λ l n. refl) same p x);
      near_is = λ p z b d. moves.near_stays p z b (omega arith) ∙ tied.near_is p z b d;
      left_is = λ p b. omega (arith, moves.left_moves p b, tied.left_is p b, left_change P kind left kind left' y line (λ l n. refl) same p);
      both_is = λ p b. moves.rest_stays (both_place p) (omega arith) (omega arith) ∙ tied.both_is p b;
      torn_is = moves.rest_stays torn_place (omega arith) (omega arith) ∙ tied.torn_is;
      conflicts_is = moves.rest_stays conflicts_place (omega arith) (omega arith) ∙ tied.conflicts_is;
    }
