-- Laws of the pass that takes nonzeros: its start, one nonzero more, its end, and validity.
-- Assumes nothing.
use mathlib.Core.Bool.{Bool, true, false, ◌||◌}
use mathlib.Core.List.{List}
use mathlib.Core.Path.{◌≡◌, refl, sym, ◌∙◌, ap}
use mir.Val.{bool_byte}
use Prim.Native.Nat.{ℕ, ◌+◌, ◌≤◌}
use native.Mathlib.Omega.{arith}
use lib.Dec.{eqb}
use Rattle.counting.specs.Tests.{◌and◌, ◌or◌, bit}
use Rattle.counting.specs.Sums.{count, any}
use Rattle.counting.proofs.Joined.{no_way, and_passed, and_fails_left, or_left, or_passed}
use Rattle.counting.proofs.Counted.{count_most, count_none, count-more, any_none, any-more}
use Rattle.model.specs.declared.Part.{Part}
use Rattle.model.specs.declared.Part.TheVariants.{Zero, One}
use Rattle.model.specs.declared.Caps.{Caps}
use Rattle.model.specs.Pattern.{Pattern, pattern_of, row_in, column_in, row_line, column_line}
use Rattle.model.specs.Split.{part_number}
use Rattle.model.specs.Marking.{Marking, takes, taken, valid}
use Rattle.weighing.specs.declared.taking.Taken.{Taken}
use Rattle.weighing.specs.Cells.{marking_in}
use Rattle.weighing.specs.Taking.{TakenOf, valid_by}

-- a nonzero is taken, by the lines of its row and column
pub takes_code :
    (m n nonzeros : ℕ) (list marks : List ℕ) (p : Part) (t row column part : ℕ) (r : Bool) →
    row ≡ row_in list t → column ≡ m + column_in list t → part ≡ part_number p →
    r ≡ eqb (marking_in marks row) part or eqb (marking_in marks column) part →
    r ≡ takes (pattern_of m n nonzeros list) (marking_in marks) p t
unfolding takes pattern_of row_line column_line
takes_code m n nonzeros list marks p t row column part r a b k e = e ∙ rw (a, b, k)

-- a test as the code adds it, and two that it joins
pub byte_bit : (b : Bool) → bool_byte b ≡ bit b
unfolding bit
byte_bit true = refl
byte_bit false = refl

pub either_or : (a b : Bool) → a || b ≡ a or b
unfolding ◌or◌
either_or true b = refl
either_or false b = refl

-- tests that the code joins, and one that it adds
pub ruleset joins = (and_passed, and_fails_left, or_left, or_passed, byte_bit)

-- what a pass over the first t nonzeros has found
pub record TakenTo (P : Pattern) (μ : Marking) (t zero one : ℕ) (both : Bool) : Type 0 where
  pub zero_is : zero ≡ count (takes P μ Zero) t
  pub one-is : one ≡ count (takes P μ One) t
  pub both_is : both ≡ any (λ s. takes P μ Zero s and takes P μ One s) t

-- before the first nonzero
pub taken_start : (P : Pattern) (μ : Marking) → TakenTo P μ 0 0 0 false
taken_start P μ =
    record {
      zero_is = sym (count_none (takes P μ Zero) 0 (λ t b. no_way (omega arith)));
      one-is = sym (count_none (takes P μ One) 0 (λ t b. no_way (omega arith)));
      both_is = sym (any_none (λ s. takes P μ Zero s and takes P μ One s) 0 (λ t b. no_way (omega arith)));
    }

-- one nonzero more, by whether 0 and 1 take it
pub taken_more :
    {P : Pattern} {μ : Marking} {t zero one : ℕ} {both : Bool} → TakenTo P μ t zero one both →
    {first second further both' : Bool} {x y : ℕ} → first ≡ takes P μ Zero t → second ≡ takes P μ One t →
    x ≡ bit first → y ≡ bit second → further ≡ first and second → both' ≡ both or further →
    TakenTo P μ (t + 1) (zero + x) (one + y) both'
taken_more {P} {μ} {t} k f g ex ey e h =
    record {
      zero_is = omega (arith, count-more (takes P μ Zero) t, k.zero_is, ex ∙ ap bit f);
      one-is = omega (arith, count-more (takes P μ One) t, k.one-is, ey ∙ ap bit g);
      both_is = h ∙ rw (e, f, g, k.both_is) (sym (any-more (λ s. takes P μ Zero s and takes P μ One s) t));
    }

-- after the last nonzero
pub taken_end :
    {P : Pattern} {μ : Marking} {t : ℕ} {r : Taken} →
    t ≡ P.size → TakenTo P μ t r.zero r.one r.both → TakenOf P μ r
unfolding taken
taken_end {P} {μ} e k =
    record {
      zero_is = k.zero_is ∙ ap (count (takes P μ Zero)) e;
      one-is = k.one-is ∙ ap (count (takes P μ One)) e;
      both_is = k.both_is ∙ ap (any (λ s. takes P μ Zero s and takes P μ One s)) e;
    }

-- a count so far is at most the number of nonzeros passed
pub taken_small :
    {P : Pattern} {μ : Marking} {t zero one : ℕ} {both : Bool} → TakenTo P μ t zero one both → (zero ≤ t) × (one ≤ t)
taken_small {P} {μ} {t} k =
    (omega (arith, k.zero_is, count_most (takes P μ Zero) t), omega (arith, k.one-is, count_most (takes P μ One) t))

-- the test of validity, on what the pass answers, is validity
pub valid-by :
    {P : Pattern} {μ : Marking} {r : Taken} (caps : Caps) → TakenOf P μ r → valid_by r caps ≡ valid P caps μ
unfolding valid_by valid
valid-by caps k = rw (k.zero_is, k.one-is, k.both_is)
