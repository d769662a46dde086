-- Laws of the condition of a line: what each kind tells of the line's mark and nonzeros, and that no line is of two kinds.
-- Assumes nothing.
use mathlib.Core.Bool.{Bool, true, false}
use mathlib.Core.Path.{◌≡◌, refl, sym, ◌∙◌}
use Prim.Native.Nat.{ℕ, zero, suc, ◌≤◌}
use native.Mathlib.Omega.{arith}
use lib.Dec.{eqb}
use borrow.Author.Tests.{eqb-true, ne_eqb}
use Rattle.counting.proofs.Joined.{clash}
use Rattle.model.specs.declared.Part.{Part}
use Rattle.model.specs.declared.Part.TheVariants.{Zero, One}
use Rattle.model.specs.declared.Mark.TheVariants.{Cut}
use Rattle.model.specs.declared.Condition.{Condition}
use Rattle.model.specs.declared.Condition.TheVariants.{Marked, Torn, Leaning, Untouched}
use Rattle.model.specs.Pattern.{Pattern}
use Rattle.model.specs.Split.{other}
use Rattle.model.specs.Marking.{Marking, mark_number, unmarked, touched, condition_for, condition}
use Rattle.model.specs.Bound.{says_cut, says_torn, says_leaning, leans}

-- an unmarked line does not have mark cut
past_cut : (x : ℕ) → false ≡ eqb (suc (suc (suc x))) (mark_number Cut)
past_cut x = sym (ne_eqb (suc (suc (suc x))) (mark_number Cut) (λ e. omega arith))

-- marked cut, for a mark and two tests
cut_for : (x : ℕ) (a b : Bool) → says_cut (condition_for x a b) ≡ eqb x (mark_number Cut)
unfolding condition_for
cut_for zero a b = refl
cut_for (suc zero) a b = refl
cut_for (suc (suc zero)) a b = refl
cut_for (suc (suc (suc x))) true true = past_cut x
cut_for (suc (suc (suc x))) true false = past_cut x
cut_for (suc (suc (suc x))) false true = past_cut x
cut_for (suc (suc (suc x))) false false = past_cut x

-- a line is marked cut just where its mark is cut
pub cut_is : (P : Pattern) (μ : Marking) (l : ℕ) → says_cut (condition P μ l) ≡ eqb (μ l) (mark_number Cut)
unfolding condition
cut_is P μ l = cut_for (μ l) (touched P μ Zero l) (touched P μ One l)

-- a line that is marked cut has mark cut
pub cut_marked : (P : Pattern) (μ : Marking) (l : ℕ) → says_cut (condition P μ l) ≡ true → μ l ≡ mark_number Cut
cut_marked P μ l h = eqb-true (μ l) (mark_number Cut) (sym (cut_is P μ l) ∙ h)

-- an unmarked line, with nonzeros taken by 0 and by 1 as two tests tell
record FreeLine (x : ℕ) (a b a' b' : Bool) : Type 0 where
  free : unmarked ≤ x
  first : a ≡ a'
  second : b ≡ b'

torn_for : (x : ℕ) (a b : Bool) → says_torn (condition_for x a b) ≡ true → FreeLine x a b true true
unfolding condition_for
torn_for zero a b h = clash h refl
torn_for (suc zero) a b h = clash h refl
torn_for (suc (suc zero)) a b h = clash h refl
torn_for (suc (suc (suc x))) true true h = record { free = omega arith; first = refl; second = refl }
torn_for (suc (suc (suc x))) true false h = clash h refl
torn_for (suc (suc (suc x))) false true h = clash h refl
torn_for (suc (suc (suc x))) false false h = clash h refl

lean_zero_for : (x : ℕ) (a b : Bool) → says_leaning Zero (condition_for x a b) ≡ true → FreeLine x a b true false
unfolding says_leaning condition_for
lean_zero_for zero a b h = clash h refl
lean_zero_for (suc zero) a b h = clash h refl
lean_zero_for (suc (suc zero)) a b h = clash h refl
lean_zero_for (suc (suc (suc x))) true true h = clash h refl
lean_zero_for (suc (suc (suc x))) true false h = record { free = omega arith; first = refl; second = refl }
lean_zero_for (suc (suc (suc x))) false true h = clash h refl
lean_zero_for (suc (suc (suc x))) false false h = clash h refl

lean_one_for : (x : ℕ) (a b : Bool) → says_leaning One (condition_for x a b) ≡ true → FreeLine x a b false true
unfolding says_leaning condition_for
lean_one_for zero a b h = clash h refl
lean_one_for (suc zero) a b h = clash h refl
lean_one_for (suc (suc zero)) a b h = clash h refl
lean_one_for (suc (suc (suc x))) true true h = clash h refl
lean_one_for (suc (suc (suc x))) true false h = clash h refl
lean_one_for (suc (suc (suc x))) false true h = record { free = omega arith; first = refl; second = refl }
lean_one_for (suc (suc (suc x))) false false h = clash h refl

-- a torn line: unmarked, with nonzeros taken by 0 and by 1
pub record TornLine (P : Pattern) (μ : Marking) (l : ℕ) : Type 0 where
  pub free : unmarked ≤ μ l
  pub by_zero : touched P μ Zero l ≡ true
  pub by_one : touched P μ One l ≡ true

-- a line that is torn is such a line
pub torn_line : (P : Pattern) (μ : Marking) (l : ℕ) → says_torn (condition P μ l) ≡ true → TornLine P μ l
unfolding condition
torn_line P μ l h =
    let f = torn_for (μ l) (touched P μ Zero l) (touched P μ One l) h in
    record { free = f.free; by_zero = f.first; by_one = f.second }

-- a line that leans to p: unmarked, with nonzeros taken by p and none by the other part
pub record LeaningLine (P : Pattern) (μ : Marking) (p : Part) (l : ℕ) : Type 0 where
  pub free : unmarked ≤ μ l
  pub near : touched P μ p l ≡ true
  pub far : touched P μ (other p) l ≡ false

-- a line that leans to p is such a line
pub leaning_line : (P : Pattern) (μ : Marking) (p : Part) (l : ℕ) → leans P μ p l ≡ true → LeaningLine P μ p l
unfolding leans condition other
leaning_line P μ Zero l h =
    let f = lean_zero_for (μ l) (touched P μ Zero l) (touched P μ One l) h in
    record { free = f.free; near = f.first; far = f.second }
leaning_line P μ One l h =
    let f = lean_one_for (μ l) (touched P μ Zero l) (touched P μ One l) h in
    record { free = f.free; near = f.second; far = f.first }

-- a line marked cut is not torn
pub cut_not_torn : (c : Condition) → says_cut c ≡ true → says_torn c ≡ false
cut_not_torn (Marked mark) h = refl
cut_not_torn Torn h = clash h refl
cut_not_torn (Leaning p) h = refl
cut_not_torn Untouched h = refl

-- a line marked cut does not lean
pub cut_not_leaning : (p : Part) (c : Condition) → says_cut c ≡ true → says_leaning p c ≡ false
unfolding says_leaning
cut_not_leaning p (Marked mark) h = refl
cut_not_leaning p Torn h = refl
cut_not_leaning p (Leaning q) h = clash h refl
cut_not_leaning p Untouched h = refl

-- a torn line does not lean
pub torn_not_leaning : (p : Part) (c : Condition) → says_torn c ≡ true → says_leaning p c ≡ false
unfolding says_leaning
torn_not_leaning p (Marked mark) h = refl
torn_not_leaning p Torn h = refl
torn_not_leaning p (Leaning q) h = clash h refl
torn_not_leaning p Untouched h = refl

-- a line leans to one part only
pub leaning_once : (c : Condition) → says_leaning Zero c ≡ true → says_leaning One c ≡ false
unfolding says_leaning
leaning_once (Marked mark) h = refl
leaning_once Torn h = refl
leaning_once (Leaning Zero) h = refl
leaning_once (Leaning One) h = clash h refl
leaning_once Untouched h = refl
