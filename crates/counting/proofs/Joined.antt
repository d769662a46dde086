-- Laws of the tests: what a joined test tells, a case split on a test, and the number of a test.
-- Assumes nothing.
use mathlib.Core.Bool.{Bool, true, false, not, true≢false}
use mathlib.Core.Path.{◌≡◌, refl, sym, ◌∙◌, ap}
use mathlib.Core.Logic.{◌⊎◌, inl, inr}
use Prim.Native.Nat.{ℕ, ◌≤◌, ◌+◌}
use native.Mathlib.Nat.{not-suc-le-zero}
use native.Mathlib.Omega.{arith}
use borrow.Author.Tests.{ltb-true, ltb-false, leb-true, leb-false, eqb-true, eqb-false}
use Rattle.std.specs.Int.{from_bool}
use Rattle.counting.specs.Tests.{◌and◌, ◌or◌, pick, bit}

-- anything follows from an order that fails
pub no_way : {A : Type 0} → 1 ≤ 0 → A
no_way h = absurd (not-suc-le-zero h)

-- anything follows from an equation that fails, such as `cc` makes of two cases that are one
pub never : {A : Type 0} → ◌≡◌ {A = ℕ} 0 1 → A
never e = no_way (omega arith)

-- a test does not both pass and fail
pub clash : {A : Type 0} {b : Bool} → b ≡ true → b ≡ false → A
clash pass fail = absurd (true≢false (sym pass ∙ fail))

-- a test passes or fails
pub by_test : {A : Type 0} (b : Bool) → (b ≡ true → A) → (b ≡ false → A) → A
by_test true f g = f refl
by_test false f g = g refl

-- a test that cannot fail passes
pub passes : (b : Bool) → (b ≡ false → ⊥) → b ≡ true
passes true h = refl
passes false h = absurd (h refl)

-- a test that cannot pass fails
pub fails : (b : Bool) → (b ≡ true → ⊥) → b ≡ false
fails true h = absurd (h refl)
fails false h = refl

-- a test as a number, as the language converts it
pub from_bool_is : (b : Bool) → from_bool b ≡ bit b
unfolding bit
from_bool_is true = refl
from_bool_is false = refl

-- two tests that imply each other are equal
pub both_ways : (a b : Bool) → (a ≡ true → b ≡ true) → (b ≡ true → a ≡ true) → a ≡ b
both_ways true b f g = sym (f refl)
both_ways false true f g = g refl
both_ways false false f g = refl

pub and_intro : {a b : Bool} → a ≡ true → b ≡ true → a and b ≡ true
unfolding ◌and◌
and_intro p q = rw (p, q)

pub and_left : (a b : Bool) → a and b ≡ true → a ≡ true
unfolding ◌and◌
and_left true b h = refl
and_left false b h = h

pub and_right : (a b : Bool) → a and b ≡ true → b ≡ true
unfolding ◌and◌
and_right true b h = h
and_right false b h = clash h refl

pub and_fails_left : {a : Bool} (b : Bool) → a ≡ false → a and b ≡ false
unfolding ◌and◌
and_fails_left b h = rw h

pub and_fails_right : (a : Bool) {b : Bool} → b ≡ false → a and b ≡ false
unfolding ◌and◌
and_fails_right true h = h
and_fails_right false h = refl

pub and_passed : {a : Bool} (b : Bool) → a ≡ true → a and b ≡ b
unfolding ◌and◌
and_passed b h = rw h

-- a test that passes adds nothing
pub and_all : (a b : Bool) → b ≡ true → a and b ≡ a
unfolding ◌and◌
and_all true b h = h
and_all false b h = refl

pub and-turned : (a b : Bool) → a and b ≡ b and a
unfolding ◌and◌
and-turned true b = sym (and_all b true refl)
and-turned false true = refl
and-turned false false = refl

pub and_cases : (a b : Bool) → a and b ≡ false → (a ≡ false) ⊎ (b ≡ false)
unfolding ◌and◌
and_cases true b h = inr h
and_cases false b h = inl refl

-- of two tests that do not both pass, of which the first passes, the second fails
pub and-other : (a b : Bool) → a and b ≡ false → a ≡ true → b ≡ false
unfolding ◌and◌
and-other true b h p = h
and-other false b h p = clash p refl

-- two pairs of tests that agree
pub and_eq : {a b c d : Bool} → a ≡ c → b ≡ d → a and b ≡ c and d
and_eq {a} {b} {c} {d} e f = ap (λ (x : Bool). x and b) e ∙ ap (λ (x : Bool). c and x) f

pub or_eq : {a b c d : Bool} → a ≡ c → b ≡ d → a or b ≡ c or d
or_eq {a} {b} {c} {d} e f = ap (λ (x : Bool). x or b) e ∙ ap (λ (x : Bool). c or x) f

pub or_left : {a : Bool} (b : Bool) → a ≡ true → a or b ≡ true
unfolding ◌or◌
or_left b h = rw h

pub or_right : (a : Bool) {b : Bool} → b ≡ true → a or b ≡ true
unfolding ◌or◌
or_right true h = refl
or_right false h = h

pub or_passed : {a : Bool} (b : Bool) → a ≡ false → a or b ≡ b
unfolding ◌or◌
or_passed b h = rw h

pub or_cases : (a b : Bool) → a or b ≡ true → (a ≡ true) ⊎ (b ≡ true)
unfolding ◌or◌
or_cases true b h = inl refl
or_cases false b h = inr h

pub or_fails : {a b : Bool} → a ≡ false → b ≡ false → a or b ≡ false
unfolding ◌or◌
or_fails p q = rw (p, q)

pub or_fails_left : (a b : Bool) → a or b ≡ false → a ≡ false
unfolding ◌or◌
or_fails_left true b h = h
or_fails_left false b h = refl

pub or_fails_right : (a b : Bool) → a or b ≡ false → b ≡ false
unfolding ◌or◌
or_fails_right true b h = clash refl h
or_fails_right false b h = h

pub pick_true : {A : Type 0} {b : Bool} (x y : A) → b ≡ true → pick b x y ≡ x
unfolding pick
pick_true x y h = rw h

pub pick-false : {A : Type 0} {b : Bool} (x y : A) → b ≡ false → pick b x y ≡ y
unfolding pick
pick-false x y h = rw h

pub bit-true : (b : Bool) → b ≡ true → bit b ≡ 1
unfolding bit
bit-true b h = rw h

pub bit-false : (b : Bool) → b ≡ false → bit b ≡ 0
unfolding bit
bit-false b h = rw h

pub bit_le_one : (b : Bool) → bit b ≤ 1
unfolding bit
bit_le_one true = omega arith
bit_le_one false = omega arith

-- the number of a test is monotone
pub bit_mono : (a b : Bool) → (a ≡ true → b ≡ true) → bit a ≤ bit b
unfolding bit
bit_mono true b h = rw (h refl) (omega arith)
bit_mono false b h = omega arith

-- a test passes or fails, as one number
pub bit_parts : (a b : Bool) → bit (a and b) + bit (a and not b) ≡ bit a
unfolding bit ◌and◌
bit_parts true true = refl
bit_parts true false = refl
bit_parts false b = refl

-- what `omega` reads of a test among the hypotheses
pub ruleset facts = (arith, eqb-true, eqb-false, ltb-true, ltb-false, leb-true, leb-false, bit-true, bit-false)
