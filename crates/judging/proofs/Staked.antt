-- What is at stake for a part, from the untaken nonzeros of the lines that lean to it.
-- Assumes nothing.
use mathlib.Core.Bool.{Bool, true, false, not}
use mathlib.Core.List.{List}
use mathlib.Core.Path.{◌≡◌, refl, sym, ◌∙◌, ap}
use Prim.Native.Nat.{ℕ, ◌+◌, ◌≤◌, ◌<◌}
use native.Mathlib.Omega.{arith}
use borrow.Author.Tests.{eqb-true, eq-eqb, ne_eqb}
use lib.Dec.{eqb}
use lib.ListN.{get_or}
use Rattle.counting.specs.Tests.{◌and◌, ◌or◌, pick, bit}
use Rattle.counting.specs.Sums.{sum, count}
use Rattle.counting.proofs.Joined.{clash, by_test, and_eq, or_left, or_passed, or_fails, pick_true, pick-false}
use Rattle.counting.proofs.Summed.{sum_eq, sum_add, sum-only, sum_swap, sum-zero}
use Rattle.model.specs.declared.Part.{Part}
use Rattle.model.specs.declared.Part.TheVariants.{Zero, One}
use Rattle.model.specs.Pattern.{Pattern, Inside, lines, row_line, column_line, on}
use Rattle.model.specs.Split.{part_number}
use Rattle.model.specs.Marking.{Marking, takes}
use Rattle.model.specs.Bound.{leans, untaken, untaken_on, at_stake}
use Rattle.model.proofs.Bound.Conditions.{leaning_line}
use Rattle.model.proofs.Split.Lines.{row_line_in, column_line_in}
use Rattle.crossing.proofs.Over.{lines-apart}
use Rattle.keeping.specs.Kinds.{cells, pairs, both_are, leaning_left}
use Rattle.keeping.specs.Tied.{both_place}
use Rattle.keeping.specs.Kept.{Holds}
use Rattle.keeping.proofs.MarkedTaken.{part_below}
use Rattle.judging.proofs.Crossed.{not_part}
use Rattle.judging.proofs.Conditions.{kinds_lean, leaning_left_lem}

-- at two places that differ: the sum of what two tests of the place let pass
sum-two :
    (f : ℕ → ℕ) (n a b : ℕ) → a < n → b < n → a < b →
    sum (λ l. pick (eqb l a or eqb l b) (f l) 0) n ≡ f a + f b
sum-two f n a b p q d =
    sum_eq (λ l. pick (eqb l a or eqb l b) (f l) 0) (λ l. pick (eqb l a) (f l) 0 + pick (eqb l b) (f l) 0) n each
    ∙ sum_add (λ l. pick (eqb l a) (f l) 0) (λ l. pick (eqb l b) (f l) 0) n
    ∙ ap (λ (x : ℕ). x + sum (λ l. pick (eqb l b) (f l) 0) n) (at a p)
    ∙ ap (λ (x : ℕ). f a + x) (at b q)
  where
    at : (c : ℕ) → c < n → sum (λ l. pick (eqb l c) (f l) 0) n ≡ f c
    at c r =
        sum-only (λ l. pick (eqb l c) (f l) 0) n c r (λ l s e. pick-false (f l) 0 (ne_eqb l c e))
        ∙ pick_true (f c) 0 (eq-eqb c c refl)

    each : (l : ℕ) → l < n → pick (eqb l a or eqb l b) (f l) 0 ≡ pick (eqb l a) (f l) 0 + pick (eqb l b) (f l) 0
    each l r =
        by_test
        (eqb l a)
        (λ e. let u : eqb l b ≡ false = ne_eqb l b (λ v. omega (arith, eqb-true l a e)) in
        omega (
          arith,
          pick_true (f l) 0 (or_left (eqb l b) e),
          pick_true (f l) 0 e,
          pick-false (f l) 0 u,
        ))
        (λ e. omega (
          arith,
          ap (λ (z : Bool). pick z (f l) 0) (or_passed (eqb l b) e),
          pick-false (f l) 0 e,
        ))

-- a nonzero whose two lines are marked neither 0 nor 1 is untaken
open_untaken : (P : Pattern) (μ : Marking) (t : ℕ) → 2 ≤ μ (row_line P t) → 2 ≤ μ (column_line P t) → untaken P μ t ≡ true
unfolding untaken takes
open_untaken P μ t r c =
    ap not (or_fails (or_fails (not_part Zero _ r) (not_part Zero _ c)) (or_fails (not_part One _ r) (not_part One _ c)))

-- one nonzero: counted once if one of its lines leans, and once more if both do, which no taken one has
once_and_both :
    (u r c : Bool) → (r ≡ true → c ≡ true → u ≡ true) →
    bit (u and (r or c)) + bit (r and c) ≡ pick r (bit u) 0 + pick c (bit u) 0
unfolding ◌and◌ ◌or◌ bit pick
once_and_both true true true h = refl
once_and_both true true false h = refl
once_and_both true false true h = refl
once_and_both true false false h = refl
once_and_both false true true h = clash (h refl refl) refl
once_and_both false true false h = refl
once_and_both false false true h = refl
once_and_both false false false h = refl

-- line by line or nonzero by nonzero
pick-pick : (a b c : Bool) → pick a (bit (b and c)) 0 ≡ pick b (pick a (bit c) 0) 0
unfolding ◌and◌ bit pick
pick-pick true true c = refl
pick-pick true false c = refl
pick-pick false true c = refl
pick-pick false false c = refl

pick-sum : (a : Bool) (f : ℕ → ℕ) (n : ℕ) → pick a (sum f n) 0 ≡ sum (λ t. pick a (f t) 0) n
unfolding pick
pick-sum true f n = refl
pick-sum false f n = sym (sum-zero (λ t. 0) n (λ t b. refl))

module _ {P : Pattern} {μ : Marking} {marks by left kinds tally sums loads : List ℕ} (i : Inside P) (h : Holds P μ marks by left kinds tally sums loads) (p : Part) where
  -- the untaken nonzeros of a line, if it leans to p
  weighed :
      (l : ℕ) → l < lines P →
      pick (leans P μ p l) (cells left l) 0 ≡ pick (leans P μ p l) (count (λ t. on P l t and untaken P μ t) P.size) 0
  unfolding untaken_on
  weighed l b =
      by_test
      (leans P μ p l)
      (λ e. ap (λ (x : ℕ). pick (leans P μ p l) x 0) (leaning_left_lem h p l b e))
      (λ e. pick-false (cells left l) 0 e ∙ sym (pick-false _ 0 e))

  -- the untaken nonzeros of the lines that lean to p, nonzero by nonzero
  by-nonzeros :
      leaning_left P (cells kinds) (cells left) (part_number p)
      ≡ sum (λ t. pick (leans P μ p (row_line P t)) (bit (untaken P μ t)) 0 + pick (leans P μ p (column_line P t)) (bit (untaken P μ t)) 0) P.size
  unfolding leaning_left on
  by-nonzeros =
      sum_eq
      (λ l. pick (eqb (cells kinds l) (part_number p)) (cells left l) 0)
      (λ l. sum (λ t. pick (on P l t) (pick (leans P μ p l) (bit (untaken P μ t)) 0) 0) P.size)
      (lines P)
      line
      ∙ sum_swap (λ l t. pick (on P l t) (pick (leans P μ p l) (bit (untaken P μ t)) 0) 0) (lines P) P.size
      ∙ sum_eq
      (λ t. sum (λ l. pick (on P l t) (pick (leans P μ p l) (bit (untaken P μ t)) 0) 0) (lines P))
      (λ t. pick (leans P μ p (row_line P t)) (bit (untaken P μ t)) 0 + pick (leans P μ p (column_line P t)) (bit (untaken P μ t)) 0)
      P.size
      nonzero
    where
      line :
          (l : ℕ) → l < lines P →
          pick (eqb (cells kinds l) (part_number p)) (cells left l) 0
          ≡ sum (λ t. pick (on P l t) (pick (leans P μ p l) (bit (untaken P μ t)) 0) 0) P.size
      line l b =
          ap (λ (z : Bool). pick z (cells left l) 0) (kinds_lean h p l b)
          ∙ weighed l b
          ∙ pick-sum (leans P μ p l) (λ t. bit (on P l t and untaken P μ t)) P.size
          ∙ sum_eq
          (λ t. pick (leans P μ p l) (bit (on P l t and untaken P μ t)) 0)
          (λ t. pick (on P l t) (pick (leans P μ p l) (bit (untaken P μ t)) 0) 0)
          P.size
          (λ t c. pick-pick (leans P μ p l) (on P l t) (untaken P μ t))

      nonzero :
          (t : ℕ) → t < P.size →
          sum (λ l. pick (on P l t) (pick (leans P μ p l) (bit (untaken P μ t)) 0) 0) (lines P)
          ≡ pick (leans P μ p (row_line P t)) (bit (untaken P μ t)) 0 + pick (leans P μ p (column_line P t)) (bit (untaken P μ t)) 0
      nonzero t b =
          sum-two
          (λ l. pick (leans P μ p l) (bit (untaken P μ t)) 0)
          (lines P)
          (row_line P t)
          (column_line P t)
          (row_line_in P t i b)
          (column_line_in P t i b)
          (lines-apart i t b)

  -- the nonzeros at stake, and those of two lines that lean to p, are the untaken nonzeros of lines that lean to p, line by line
  pub stake_kept : at_stake P μ p + get_or sums (both_place (part_number p)) 0 ≡ get_or sums (part_number p) 0
  unfolding at_stake pairs both_are
  stake_kept =
      ap (λ (x : ℕ). at_stake P μ p + x) (h.stage.tied.both_is (part_number p) (part_below p))
      ∙ sym (sum_add (λ t. bit (staked t)) (λ t. bit (twice t)) P.size)
      ∙ sum_eq
      (λ t. bit (staked t) + bit (twice t))
      (λ t. pick (leans P μ p (row_line P t)) (bit (untaken P μ t)) 0 + pick (leans P μ p (column_line P t)) (bit (untaken P μ t)) 0)
      P.size
      each
      ∙ sym by-nonzeros
      ∙ sym (h.stage.tied.left_is (part_number p) (part_below p))
    where
      staked : ℕ → Bool
      staked t = untaken P μ t and (leans P μ p (row_line P t) or leans P μ p (column_line P t))

      twice : ℕ → Bool
      twice t = eqb (cells kinds (row_line P t)) (part_number p) and eqb (cells kinds (column_line P t)) (part_number p)

      each :
          (t : ℕ) → t < P.size →
          bit (staked t) + bit (twice t)
          ≡ pick (leans P μ p (row_line P t)) (bit (untaken P μ t)) 0 + pick (leans P μ p (column_line P t)) (bit (untaken P μ t)) 0
      each t b =
          ap
          (λ (z : Bool). bit (staked t) + bit z)
          (and_eq (kinds_lean h p (row_line P t) (row_line_in P t i b)) (kinds_lean h p (column_line P t) (column_line_in P t i b)))
          ∙ once_and_both
          (untaken P μ t)
          (leans P μ p (row_line P t))
          (leans P μ p (column_line P t))
          (λ r c. open_untaken
          P
          μ
          t
          (omega (arith, (leaning_line P μ p (row_line P t) r).free))
          (omega (arith, (leaning_line P μ p (column_line P t) c).free)))
