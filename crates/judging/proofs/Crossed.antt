-- The nonzeros of a line and the marks of its crossing lines: which are taken by a part and which are untaken.
-- Assumes nothing.
use mathlib.Core.Bool.{Bool, true, false, not}
use mathlib.Core.Path.{◌≡◌, refl, sym, ◌∙◌, ap, fun_ext}
use Prim.Native.Nat.{ℕ, zero, suc, ◌≤◌}
use native.Mathlib.Omega.{arith}
use borrow.Author.Tests.{eqb-true, ne_eqb, le-leb}
use lib.Dec.{eqb, leb, ltb}
use Rattle.counting.specs.Tests.{◌and◌, ◌or◌, pick, bit}
use Rattle.counting.specs.Sums.{sum, count, any}
use Rattle.counting.proofs.Joined.{by_test, pick_true, pick-false, or_eq, or_passed, or_fails}
use Rattle.counting.proofs.Summed.{sum_eq}
use Rattle.model.specs.declared.Part.{Part}
use Rattle.model.specs.declared.Part.TheVariants.{Zero, One}
use Rattle.model.specs.Pattern.{Pattern, row_line, column_line, on}
use Rattle.model.specs.Split.{part_number}
use Rattle.model.specs.Marking.{Marking, takes, touched}
use Rattle.model.specs.Bound.{untaken, untaken_on}
use Rattle.crossing.specs.Crossing.{across, over_line}
use Rattle.keeping.specs.Kept.{crossing_with, crossing_open}

-- at a nonzero that line l holds, a number of its two lines that does not depend on their order is one of l and the crossing line
at_crossing :
    (P : Pattern) (l t : ℕ) (g : ℕ → ℕ → ℕ) → ((a b : ℕ) → g a b ≡ g b a) →
    pick (on P l t) (g (row_line P t) (column_line P t)) 0 ≡ pick (on P l t) (g l (across P l t)) 0
unfolding on across
at_crossing P l t g turn =
    by_test
    (eqb l (row_line P t))
    (λ e. let r : row_line P t ≡ l = sym (eqb-true l (row_line P t) e) in
    ap (λ (z : ℕ). pick (eqb l (row_line P t) or eqb l (column_line P t)) z 0)
    (ap (λ (z : ℕ). g z (column_line P t)) r
    ∙ ap (g l) (sym (pick_true (column_line P t) (row_line P t) e))))
    (λ e. by_test
    (eqb l (column_line P t))
    (λ f. let c : column_line P t ≡ l = sym (eqb-true l (column_line P t) f) in
    ap (λ (z : ℕ). pick (eqb l (row_line P t) or eqb l (column_line P t)) z 0)
    (ap (g (row_line P t)) c
    ∙ turn (row_line P t) l
    ∙ ap (g l) (sym (pick-false (column_line P t) (row_line P t) e))))
    (λ f. pick-false _ _ (or_fails e f) ∙ sym (pick-false _ _ (or_fails e f))))

-- the sum, over the nonzeros of line l, of such a number
pub over_pairs :
    (P : Pattern) (l : ℕ) (g : ℕ → ℕ → ℕ) → ((a b : ℕ) → g a b ≡ g b a) →
    sum (λ t. pick (on P l t) (g (row_line P t) (column_line P t)) 0) P.size ≡ over_line P l (g l)
unfolding over_line
over_pairs P l g turn =
    sum_eq
    (λ t. pick (on P l t) (g (row_line P t) (column_line P t)) 0)
    (λ t. pick (on P l t) (g l (across P l t)) 0)
    P.size
    (λ t b. at_crossing P l t g turn)

and-bit : (a b : Bool) → bit (a and b) ≡ pick a (bit b) 0
unfolding ◌and◌ bit pick
and-bit true b = refl
and-bit false b = refl

or_turned : (a b : Bool) → a or b ≡ b or a
unfolding ◌or◌
or_turned true true = refl
or_turned true false = refl
or_turned false true = refl
or_turned false false = refl

-- nonzeros of line l that pass a test of the marks of their two lines
count_crossing :
    (P : Pattern) (μ : Marking) (l : ℕ) (test : ℕ → ℕ → Bool) → ((a b : ℕ) → test a b ≡ test b a) →
    (f : ℕ → Bool) → ((z : ℕ) → test (μ l) z ≡ f z) →
    count (λ t. on P l t and test (μ (row_line P t)) (μ (column_line P t))) P.size ≡ over_line P l (λ z. bit (f (μ z)))
count_crossing P μ l test turn f same =
    sum_eq
    (λ t. bit (on P l t and test (μ (row_line P t)) (μ (column_line P t))))
    (λ t. pick (on P l t) (bit (test (μ (row_line P t)) (μ (column_line P t)))) 0)
    P.size
    (λ t b. and-bit (on P l t) (test (μ (row_line P t)) (μ (column_line P t))))
    ∙ over_pairs P l (λ a b. bit (test (μ a) (μ b))) (λ a b. ap bit (turn (μ a) (μ b)))
    ∙ ap (over_line P l) (fun_ext (λ z. ap bit (same (μ z))))

-- a mark from 2 on is no part
pub not_part : (p : Part) (x : ℕ) → 2 ≤ x → eqb x (part_number p) ≡ false
not_part Zero x h = ne_eqb x 0 (λ e. omega arith)
not_part One x h = ne_eqb x 1 (λ e. omega arith)

-- at a line marked neither 0 nor 1: a nonzero is taken by p just where the crossing line is marked p
pub taken_crossing :
    (P : Pattern) (μ : Marking) (p : Part) (l : ℕ) → 2 ≤ μ l →
    count (λ t. on P l t and takes P μ p t) P.size ≡ crossing_with P μ (part_number p) l
unfolding takes crossing_with
taken_crossing P μ p l free =
    count_crossing
    P
    μ
    l
    (λ a b. eqb a (part_number p) or eqb b (part_number p))
    (λ a b. or_turned (eqb a (part_number p)) (eqb b (part_number p)))
    (λ z. eqb z (part_number p))
    (λ z. or_passed (eqb z (part_number p)) (not_part p (μ l) free))

-- it has nonzeros taken by p just where crossing lines are marked p
pub touched-by :
    (P : Pattern) (μ : Marking) (p : Part) (l : ℕ) → 2 ≤ μ l →
    touched P μ p l ≡ ltb 0 (crossing_with P μ (part_number p) l)
unfolding touched any
touched-by P μ p l free = ap (ltb 0) (taken_crossing P μ p l free)

-- neither 0 nor 1
free_mark : (z : ℕ) → not (eqb z 0 or eqb z 1) ≡ leb 2 z
unfolding ◌or◌
free_mark zero = refl
free_mark (suc zero) = refl
free_mark (suc (suc z)) = ap not (or_fails (ne_eqb (suc (suc z)) 0 (λ e. omega arith)) (ne_eqb (suc (suc z)) 1 (λ e. omega arith))) ∙ sym (le-leb 2 (suc (suc z)) (omega arith))

-- its untaken nonzeros are those whose crossing line is cut or unmarked
pub left-untaken : (P : Pattern) (μ : Marking) (l : ℕ) → 2 ≤ μ l → untaken_on P μ l ≡ crossing_open P μ l
unfolding untaken_on untaken takes crossing_open
left-untaken P μ l free =
    count_crossing
    P
    μ
    l
    (λ a b. not ((eqb a 0 or eqb b 0) or (eqb a 1 or eqb b 1)))
    (λ a b. ap not (or_eq (or_turned (eqb a 0) (eqb b 0)) (or_turned (eqb a 1) (eqb b 1))))
    (λ z. leb 2 z)
    (λ z. ap not (or_eq (or_passed (eqb z 0) (not_part Zero (μ l) free)) (or_passed (eqb z 1) (not_part One (μ l) free))) ∙ free_mark z)
