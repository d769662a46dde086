-- Tests joined and choices by a test, as a search over a function's goals uses them.
-- Assumes nothing.
use Rattle.std.proofs.Common.{◌≡◌, ◌≤◌, Bool, true, false, refl, arith}
use Rattle.std.specs.Int.{from_bool}
use Rattle.std.proofs.lemmas.Bool.Decides.{nat_tests}
use Rattle.counting.specs.Tests.{◌and◌, ◌or◌, pick, bit}

pub and_true : (b : Bool) → true and b ≡ b
unfolding ◌and◌
and_true b = refl

pub and_false : (b : Bool) → false and b ≡ false
unfolding ◌and◌
and_false b = refl

pub or_true : (b : Bool) → true or b ≡ true
unfolding ◌or◌
or_true b = refl

pub or_false : (b : Bool) → false or b ≡ b
unfolding ◌or◌
or_false b = refl

pub pick_first : {A : Type 0} (a b : A) → pick true a b ≡ a
unfolding pick
pick_first a b = refl

pub pick_second : {A : Type 0} (a b : A) → pick false a b ≡ b
unfolding pick
pick_second a b = refl

-- the number of a test is the one that a conversion gives
pub bit_bool : (b : Bool) → bit b ≡ from_bool b
unfolding bit
bit_bool true = refl
bit_bool false = refl

pub bit_few : (b : Bool) → bit b ≤ 1
unfolding bit
bit_few true = omega arith
bit_few false = omega arith

pub ruleset joins = (arith, nat_tests, and_true, and_false, or_true, or_false, pick_first, pick_second, bit_bool, bit_few)
