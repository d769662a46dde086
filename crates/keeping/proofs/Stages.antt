-- The arrays that are kept count another marking: with one mark more or less, or with other numbers of nonzeros taken besides.
-- Assumes nothing.
use mathlib.Core.Path.{◌≡◌, refl, sym, ◌∙◌, ap}
use mathlib.Core.List.{List}
use Prim.Native.Nat.{ℕ, ◌+◌, ◌≤◌, ◌<◌}
use native.Mathlib.Omega.{arith}
use borrow.Author.Tests.{eqb-true, lt-ltb, le-ltb}
use lib.Dec.{eqb, ltb, leb}
use Rattle.counting.specs.Tests.{pick, bit}
use Rattle.counting.proofs.Joined.{by_test, pick_true, pick-false}
use Rattle.model.specs.Pattern.{Pattern, Inside, lines}
use Rattle.model.specs.Marking.{Marking}
use Rattle.crossing.proofs.Over.{over_eq}
use Rattle.keeping.specs.Kept.{crossing_with, crossing_open, meets, none, marking_with, Stage, Placeable}
use Rattle.keeping.proofs.Marked.{pick-zero, crossing_marked, open_marked}

-- the same arrays count another marking, by another part, with other numbers taken besides
record Recounted (P : Pattern) (μ ν : Marking) (p q : ℕ) (c d : ℕ → ℕ) : Type 0 where
  by_same :
      (k y : ℕ) → k < 2 → y < lines P →
      crossing_with P μ k y + pick (eqb k p) (c y) 0 ≡ crossing_with P ν k y + pick (eqb k q) (d y) 0
  left_same : (y : ℕ) → y < lines P → crossing_open P μ y + d y ≡ crossing_open P ν y + c y

recounted_back :
    {P : Pattern} {μ ν : Marking} {p q : ℕ} {c d : ℕ → ℕ} →
    Recounted P μ ν p q c d → Recounted P ν μ q p d c
recounted_back same =
    record {
      by_same = λ k y a b. sym (same.by_same k y a b);
      left_same = λ y b. sym (same.left_same y b);
    }

stage_recounted :
    {P : Pattern} {μ ν : Marking} {p q : ℕ} {c d : ℕ → ℕ} {marks by left kinds tally sums : List ℕ} →
    Recounted P μ ν p q c d → Stage P μ p c marks by left kinds tally sums →
    Stage P ν q d marks by left kinds tally sums
stage_recounted same stage =
    record {
      counts = record {
        by_long = stage.counts.by_long;
        left_long = stage.counts.left_long;
        by_is = λ k y a b. stage.counts.by_is k y a b ∙ same.by_same k y a b;
        left_is = λ y b. omega (arith, stage.counts.left_is y b, same.left_same y b);
      };
      agree = stage.agree;
      tied = stage.tied;
    }

-- other numbers that agree at every line
pub stage_more :
    {P : Pattern} {μ : Marking} {p : ℕ} {c : ℕ → ℕ} {marks by left kinds tally sums : List ℕ} →
    (d : ℕ → ℕ) → ((z : ℕ) → z < lines P → c z ≡ d z) → Stage P μ p c marks by left kinds tally sums →
    Stage P μ p d marks by left kinds tally sums
stage_more {P} {μ} {p} {c} d same =
    stage_recounted record {
      by_same = λ k y a b. ap (λ x. crossing_with P μ k y + pick (eqb k p) x 0) (same y b);
      left_same = λ y b. omega (arith, same y b);
    }

-- where nothing is taken besides it does not matter by which part
pub stage_part :
    {P : Pattern} {μ : Marking} {p : ℕ} {marks by left kinds tally sums : List ℕ} →
    (q : ℕ) → Stage P μ p none marks by left kinds tally sums →
    Stage P μ q none marks by left kinds tally sums
stage_part {P} {μ} {p} q =
    stage_recounted record {
      by_same = λ k y a b. omega (arith, pick-zero (eqb k p) 0 refl, pick-zero (eqb k q) 0 refl);
      left_same = λ y b. refl;
    }

-- a marking with the same marks on the lines of the pattern
pub stage_eq :
    {P : Pattern} {μ : Marking} {p : ℕ} {c : ℕ → ℕ} {marks by left kinds tally sums : List ℕ} →
    Inside P → (ν : Marking) → ((z : ℕ) → z < lines P → μ z ≡ ν z) →
    Stage P μ p c marks by left kinds tally sums → Stage P ν p c marks by left kinds tally sums
unfolding crossing_with crossing_open
stage_eq {P} {μ} {p} {c} inside ν same =
    stage_recounted record {
      by_same = λ k y a b.
          ap
          (λ x. x + pick (eqb k p) (c y) 0)
          (over_eq
          inside
          y
          (λ z. bit (eqb (μ z) k))
          (λ z. bit (eqb (ν z) k))
          (λ z e. ap (λ x. bit (eqb x k)) (same z e)));
      left_same = λ y b.
          ap
          (λ x. x + c y)
          (over_eq
          inside
          y
          (λ z. bit (leb 2 (μ z)))
          (λ z. bit (leb 2 (ν z)))
          (λ z e. ap (λ x. bit (leb 2 x)) (same z e)));
    }

-- the nonzeros that mark p takes on each line where line l gets it
abbrev pub Taking : Pattern → ℕ → ℕ → (ℕ → ℕ) → Type 0
Taking P l p c = (y : ℕ) → c y ≡ pick (ltb p 2) (meets P l y) 0

pub taking_part : (P : Pattern) (l p : ℕ) → p < 2 → Taking P l p (meets P l)
taking_part P l p b y = sym (pick_true (meets P l y) 0 (lt-ltb p 2 b))

pub taking_cut : (P : Pattern) (l p : ℕ) → 2 ≤ p → Taking P l p none
taking_cut P l p b y = sym (pick-false (meets P l y) 0 (le-ltb p 2 b))

-- the counts of a marking, with what mark p of line l takes besides, are those of the marking with that mark
marked_counts :
    {P : Pattern} {μ : Marking} {l p : ℕ} → Inside P → Placeable P μ l p → (c : ℕ → ℕ) → Taking P l p c →
    Recounted P μ (marking_with μ l p) p 0 c none
marked_counts {P} {μ} {l} {p} inside place c taking =
    record {
      by_same = λ k y a b.
          omega (
            arith,
            crossing_marked inside μ l p k y place.free a,
            taking_by k y a,
            pick-zero (eqb k 0) 0 refl,
          );
      left_same = λ y b. omega (arith, open_marked inside μ l p y place.free, taking y);
    }
  where
    taking_by : (k y : ℕ) → k < 2 → pick (eqb k p) (c y) 0 ≡ pick (eqb k p) (meets P l y) 0
    taking_by k y b =
        by_test
        (eqb k p)
        (λ e. ap
        (λ (x : ℕ). pick (eqb k p) x 0)
        (taking y ∙ pick_true (meets P l y) 0 (lt-ltb p 2 (omega (arith, eqb-true k p e)))))
        (λ e. pick-false (c y) 0 e ∙ sym (pick-false (meets P l y) 0 e))

-- line l has got mark p
pub stage_marked :
    {P : Pattern} {μ : Marking} {l p : ℕ} {c : ℕ → ℕ} {marks by left kinds tally sums : List ℕ} →
    Inside P → Placeable P μ l p → Taking P l p c → (q : ℕ) → q ≡ p → Stage P μ q c marks by left kinds tally sums →
    Stage P (marking_with μ l p) 0 none marks by left kinds tally sums
stage_marked {c = c} inside place taking q e stage =
    stage_recounted (marked_counts inside place c taking) (rw e at stage)

-- line l is to lose mark p
pub stage_lifted :
    {P : Pattern} {μ : Marking} {l p : ℕ} {marks by left kinds tally sums : List ℕ} →
    Inside P → Placeable P μ l p → (c : ℕ → ℕ) → Taking P l p c → (q : ℕ) → q ≡ p →
    Stage P (marking_with μ l p) 0 none marks by left kinds tally sums →
    Stage P μ q c marks by left kinds tally sums
stage_lifted inside place c taking q e stage =
    rw e (stage_recounted (recounted_back (marked_counts inside place c taking)) stage)
