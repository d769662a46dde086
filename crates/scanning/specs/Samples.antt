-- Worked samples of real values, and of lines that have not their form.
-- Assumes nothing.
use Rattle.std.specs.Prelude.{Bool, true, false, Result, Err, List, [], ◌∷◌, ◌≡◌, refl, ℕ, length}
use Rattle.counting.specs.Tests.{◌and◌, ◌or◌, pick}
use Rattle.scanning.specs.declared.Field.{Field}
use Rattle.scanning.specs.declared.Field.TheVariants.{Pattern, Integer, Real}
use Rattle.scanning.specs.declared.Numbers.{Numbers}
use Rattle.scanning.specs.Classes.{between, class_of, digit_of}
use Rattle.scanning.specs.Lines.{past, stretches_at, stretch_end}
use Rattle.scanning.specs.Reals.{past_either, is_exponent, is_real}
use Rattle.scanning.specs.Words.{word_at, is_number, value_of, number_between, number_at, ends_at, numbers_at}

-- a word as a whole is a real value
abbrev real : List ℕ → Bool
real word = is_real word 0 (length word)

-- to unfold this is to unfold every definition that a sample computes with
computing : Type 0
unfolding numbers_at ends_at number_at number_between value_of is_number word_at is_real is_exponent past_either stretch_end stretches_at past digit_of class_of between ◌and◌ ◌or◌ pick
computing = Unit

-- real values: 7  7.  .5  0.25  -7  +.5  5.e3  1e5  1E-05  +0.0e+00  12345678901234567890.5
values :
    (real (55 ∷ []) ≡ true)
    × (real (55 ∷ 46 ∷ []) ≡ true)
    × (real (46 ∷ 53 ∷ []) ≡ true)
    × (real (48 ∷ 46 ∷ 50 ∷ 53 ∷ []) ≡ true)
    × (real (45 ∷ 55 ∷ []) ≡ true)
    × (real (43 ∷ 46 ∷ 53 ∷ []) ≡ true)
    × (real (53 ∷ 46 ∷ 101 ∷ 51 ∷ []) ≡ true)
    × (real (49 ∷ 101 ∷ 53 ∷ []) ≡ true)
    × (real (49 ∷ 69 ∷ 45 ∷ 48 ∷ 53 ∷ []) ≡ true)
    × (real (43 ∷ 48 ∷ 46 ∷ 48 ∷ 101 ∷ 43 ∷ 48 ∷ 48 ∷ []) ≡ true)
    × (real (49 ∷ 50 ∷ 51 ∷ 52 ∷ 53 ∷ 54 ∷ 55 ∷ 56 ∷ 57 ∷ 48 ∷ 49 ∷ 50 ∷ 51 ∷ 52 ∷ 53 ∷ 54 ∷ 55 ∷ 56 ∷ 57 ∷ 48 ∷ 46 ∷ 53 ∷ []) ≡ true)
unfolding computing
values = (refl, refl, refl, refl, refl, refl, refl, refl, refl, refl, refl)

-- no real values: .  +  -.  1e  1e+  .e3  1.2.3  0x1  nan  1d5  e5  1e5.  --1  nothing
no_values :
    (real (46 ∷ []) ≡ false)
    × (real (43 ∷ []) ≡ false)
    × (real (45 ∷ 46 ∷ []) ≡ false)
    × (real (49 ∷ 101 ∷ []) ≡ false)
    × (real (49 ∷ 101 ∷ 43 ∷ []) ≡ false)
    × (real (46 ∷ 101 ∷ 51 ∷ []) ≡ false)
    × (real (49 ∷ 46 ∷ 50 ∷ 46 ∷ 51 ∷ []) ≡ false)
    × (real (48 ∷ 120 ∷ 49 ∷ []) ≡ false)
    × (real (110 ∷ 97 ∷ 110 ∷ []) ≡ false)
    × (real (49 ∷ 100 ∷ 53 ∷ []) ≡ false)
    × (real (101 ∷ 53 ∷ []) ≡ false)
    × (real (49 ∷ 101 ∷ 53 ∷ 46 ∷ []) ≡ false)
    × (real (45 ∷ 45 ∷ 49 ∷ []) ≡ false)
    × (real [] ≡ false)
unfolding computing
no_values = (refl, refl, refl, refl, refl, refl, refl, refl, refl, refl, refl, refl, refl, refl)

-- the numbers of a whole line
abbrev numbers : List ℕ → Field → Result Numbers Numbers
numbers line field = numbers_at line 0 (length line) field

-- what the words of a line give that has not its form: 2 x 7 and 1 2 3 4 as integer, 1 2 3 as pattern, 1 2 x as real
no_form :
    (numbers (50 ∷ 32 ∷ 120 ∷ 32 ∷ 55 ∷ []) Integer ≡ Err (record { first = 2; second = 0; third = 7 }))
    × (numbers (49 ∷ 32 ∷ 50 ∷ 32 ∷ 51 ∷ 32 ∷ 52 ∷ []) Integer ≡ Err (record { first = 1; second = 2; third = 3 }))
    × (numbers (49 ∷ 32 ∷ 50 ∷ 32 ∷ 51 ∷ []) Pattern ≡ Err (record { first = 1; second = 2; third = 1 }))
    × (numbers (49 ∷ 32 ∷ 50 ∷ 32 ∷ 120 ∷ []) Real ≡ Err (record { first = 1; second = 2; third = 1 }))
unfolding computing
no_form = (refl, refl, refl, refl)
