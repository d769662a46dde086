-- Sums over the nonzeros of a line: terms that agree or are added, the nonzeros alone, and where two lines meet.
-- Assumes nothing.
use mathlib.Core.Bool.{Bool, true, false}
use mathlib.Core.Path.{◌≡◌, refl, sym, ◌∙◌, ap}
use Prim.Native.Nat.{ℕ, ◌+◌, ◌≤◌, ◌<◌}
use native.Mathlib.Omega.{arith}
use borrow.Author.Tests.{eq-eqb, eqb-true}
use lib.Dec.{eqb}
use Rattle.counting.specs.Tests.{◌and◌, ◌or◌, pick, bit}
use Rattle.counting.proofs.Joined.{no_way, clash, by_test, fails, both_ways, and_left, and_right, pick_true, pick-false}
use Rattle.counting.proofs.Summed.{sum_eq, sum_le, sum_add}
use Rattle.model.specs.Pattern.{Pattern, Inside, lines, row_line, column_line, on, line_count}
use Rattle.crossing.specs.Crossing.{across, over_line}

-- the row's line is no column's line
pub lines-apart : {P : Pattern} → Inside P → (t : ℕ) → t < P.size → row_line P t < column_line P t
unfolding row_line column_line
lines-apart {P} inside t b = omega (arith, inside.row-in t b)

pub row_inside : {P : Pattern} → Inside P → (t : ℕ) → t < P.size → row_line P t < lines P
unfolding row_line lines
row_inside {P} inside t b = omega (arith, inside.row-in t b)

pub column_inside : {P : Pattern} → Inside P → (t : ℕ) → t < P.size → column_line P t < lines P
unfolding column_line lines
column_inside {P} inside t b = omega (arith, inside.column-in t b)

-- the line that crosses at a nonzero is a line of the pattern
pub across_inside : {P : Pattern} → Inside P → (l t : ℕ) → t < P.size → across P l t < lines P
unfolding across
across_inside {P} inside l t b =
    by_test
    (eqb l (row_line P t))
    (λ e. omega (arith, pick_true (column_line P t) (row_line P t) e, column_inside inside t b))
    (λ e. omega (arith, pick-false (column_line P t) (row_line P t) e, row_inside inside t b))

pick_le : (b : Bool) (x y : ℕ) → x ≤ y → pick b x 0 ≤ pick b y 0
unfolding pick
pick_le true x y h = h
pick_le false x y h = omega arith

pick_add : (b : Bool) (x y : ℕ) → pick b (x + y) 0 ≡ pick b x 0 + pick b y 0
unfolding pick
pick_add true x y = refl
pick_add false x y = refl

pub pick-bit : (b : Bool) → pick b 1 0 ≡ bit b
unfolding pick bit
pick-bit true = refl
pick-bit false = refl

-- terms that agree at every line
pub over_eq :
    {P : Pattern} → Inside P → (l : ℕ) (f g : ℕ → ℕ) →
    ((z : ℕ) → z < lines P → f z ≡ g z) → over_line P l f ≡ over_line P l g
unfolding over_line
over_eq {P} inside l f g h =
    sum_eq
    (λ t. pick (on P l t) (f (across P l t)) 0)
    (λ t. pick (on P l t) (g (across P l t)) 0)
    P.size
    (λ t b. ap (λ (z : ℕ). pick (on P l t) z 0) (h (across P l t) (across_inside inside l t b)))

pub over_le :
    {P : Pattern} → Inside P → (l : ℕ) (f g : ℕ → ℕ) →
    ((z : ℕ) → z < lines P → f z ≤ g z) → over_line P l f ≤ over_line P l g
unfolding over_line
over_le {P} inside l f g h =
    sum_le
    (λ t. pick (on P l t) (f (across P l t)) 0)
    (λ t. pick (on P l t) (g (across P l t)) 0)
    P.size
    (λ t b. pick_le (on P l t) (f (across P l t)) (g (across P l t)) (h (across P l t) (across_inside inside l t b)))

pub over_add :
    (P : Pattern) (l : ℕ) (f g : ℕ → ℕ) → over_line P l (λ z. f z + g z) ≡ over_line P l f + over_line P l g
unfolding over_line
over_add P l f g =
    sum_eq
    (λ t. pick (on P l t) (f (across P l t) + g (across P l t)) 0)
    (λ t. pick (on P l t) (f (across P l t)) 0 + pick (on P l t) (g (across P l t)) 0)
    P.size
    (λ t b. pick_add (on P l t) (f (across P l t)) (g (across P l t)))
    ∙ sum_add (λ t. pick (on P l t) (f (across P l t)) 0) (λ t. pick (on P l t) (g (across P l t)) 0) P.size

-- 1 at each nonzero: the count of the line
pub over_one : (P : Pattern) (l : ℕ) → over_line P l (λ z. 1) ≡ line_count P l
unfolding over_line line_count
over_one P l =
    sum_eq (λ t. pick (on P l t) 1 0) (λ t. bit (on P l t)) P.size (λ t b. pick-bit (on P l t))

-- a nonzero whose row is a or e by test and whose column is b or d by test: the same from either line
meet_bits :
    (a b d e : Bool) → a and b ≡ false → e and d ≡ false →
    pick (a or b) (bit (pick a d e)) 0 ≡ pick (e or d) (bit (pick e b a)) 0
unfolding ◌and◌ ◌or◌ pick bit
meet_bits true true d e h k = clash refl h
meet_bits true false true true h k = clash refl k
meet_bits true false true false h k = refl
meet_bits true false false true h k = refl
meet_bits true false false false h k = refl
meet_bits false true true true h k = clash refl k
meet_bits false true true false h k = refl
meet_bits false true false true h k = refl
meet_bits false true false false h k = refl
meet_bits false false true true h k = refl
meet_bits false false true false h k = refl
meet_bits false false false true h k = refl
meet_bits false false false false h k = refl

pub eqb-turned : (a b : ℕ) → eqb a b ≡ eqb b a
eqb-turned a b =
    both_ways
    (eqb a b)
    (eqb b a)
    (λ e. eq-eqb b a (sym (eqb-true a b e)))
    (λ e. eq-eqb a b (sym (eqb-true b a e)))

-- no line holds both the row and the column of a nonzero
pub one_line :
    {P : Pattern} → Inside P → (l t : ℕ) → t < P.size →
    eqb l (row_line P t) and eqb l (column_line P t) ≡ false
one_line {P} inside l t b =
    fails
    (eqb l (row_line P t) and eqb l (column_line P t))
    (λ e. no_way (omega (
      arith,
      lines-apart inside t b,
      eqb-true l (row_line P t) (and_left (eqb l (row_line P t)) (eqb l (column_line P t)) e),
      eqb-true l (column_line P t) (and_right (eqb l (row_line P t)) (eqb l (column_line P t)) e),
    )))

pick-eqb : (a : Bool) (c r y : ℕ) → eqb (pick a c r) y ≡ pick a (eqb y c) (eqb y r)
unfolding pick
pick-eqb true c r y = eqb-turned c y
pick-eqb false c r y = eqb-turned r y

-- as many nonzeros of line l are in line y as of line y in line l
pub meets-back :
    {P : Pattern} → Inside P → (l y : ℕ) →
    over_line P l (λ z. bit (eqb z y)) ≡ over_line P y (λ z. bit (eqb z l))
unfolding over_line on across
meets-back {P} inside l y =
    sum_eq
    (λ t. pick (on P l t) (bit (eqb (across P l t) y)) 0)
    (λ t. pick (on P y t) (bit (eqb (across P y t) l)) 0)
    P.size
    (λ t b. let r : ℕ = row_line P t in
    let c : ℕ = column_line P t in
    ap (λ (z : Bool). pick (eqb l r or eqb l c) (bit z) 0) (pick-eqb (eqb l r) c r y)
    ∙ meet_bits (eqb l r) (eqb l c) (eqb y c) (eqb y r) (one_line inside l t b) (one_line inside y t b)
    ∙ ap (λ (z : Bool). pick (eqb y r or eqb y c) (bit z) 0) (sym (pick-eqb (eqb y r) c r l)))
