-- The fields of a test's cases.
-- Assumes nothing.
use Rattle.std.specs.Prelude.{Bool, List, [], ◌∷◌, ℕ, zero, suc, ◌+◌, ◌-◌, ◌*◌, ◌/◌, ◌%◌, eqb, ltb, leb, length, get_or, take, drop, replicate}
use Rattle.counting.specs.Tests.{◌and◌, ◌or◌, pick}
use Rattle.testing.specs.Laid.{place_past, laid}
use Rattle.testing.specs.declared.Field.{Field}
use Rattle.testing.specs.declared.Kind.{Kind}
use Rattle.testing.specs.declared.Kind.TheVariants.{Text, Numbers, Lines}

-- a bar or a line feed ends a field
abbrev pub ends_field : ℕ → Bool
ends_field letter = eqb letter 124 or eqb letter 10

-- the place after another, or the same past the end
abbrev pub place_next : List ℕ → ℕ → ℕ
place_next cases at = pick (ltb at (length cases)) (at + 1) at

-- a field that gives a number and ends at a place
unfoldable pub field_of : List ℕ → ℕ → ℕ → Field
field_of cases value end = record { value = value; next = place_next cases end }

-- the byte that a letter after a backslash stands for
abbrev pub escaped_byte : ℕ → ℕ
escaped_byte letter = pick (eqb letter 110) 10 (pick (eqb letter 114) 13 (pick (eqb letter 116) 9 (pick (eqb letter 118) 11 (pick (eqb letter 48) 0 255))))

-- the byte that is given at a place by a letter, or by a backslash and a letter; and the place after it
unfoldable pub letter_given : List ℕ → ℕ → Field
letter_given cases at =
    let letter = get_or cases at 10 in
    let next = place_next cases at in
    pick (eqb letter 92) (field_of cases (escaped_byte (get_or cases next 10)) next) (field_of cases letter at)

-- a digit
abbrev pub is_digit : ℕ → Bool
is_digit letter = leb 48 letter and leb letter 57

-- a number with a digit more, whose letter is 48 and the digit
unfoldable pub grown : ℕ → ℕ → ℕ
grown value letter = pick (leb value 1844674407370955160) (value * 10 + letter % 16) 18446744073709551615

-- a number with the digits that some letters begin with, and the place after them
unfoldable pub digits_from : ℕ → ℕ → List ℕ → Field
digits_from value at [] = record { value = value; next = at }
digits_from value at (letter ∷ letters) =
    pick (is_digit letter) (digits_from (grown value letter) (at + 1) letters) (record { value = value; next = at })

-- the number whose digits stand from a place on, and the place after them
unfoldable pub digits_at : List ℕ → ℕ → Field
digits_at cases at = digits_from 0 at (drop at cases)

-- the number of a field
unfoldable pub number_at : List ℕ → ℕ → Field
number_at cases at = let digits = digits_at cases at in field_of cases digits.value digits.next

-- the number that a field gives
abbrev pub number_of : List ℕ → ℕ → ℕ
number_of cases at = (number_at cases at).value

-- the place of the field after it
abbrev pub past_number : List ℕ → ℕ → ℕ
past_number cases at = (number_at cases at).next

-- the number that is given at a place of a field of numbers, and the place of the next one or of the field's end
unfoldable pub number_given : List ℕ → ℕ → Field
number_given cases at =
    let digits = digits_at cases at in
    pick (ends_field (get_or cases digits.next 10)) digits (field_of cases digits.value digits.next)

-- the byte or the number that is given at a place, and where the field goes on
abbrev pub given : List ℕ → ℕ → Kind → Field
given cases at Text = letter_given cases at
given cases at Numbers = number_given cases at
given cases at Lines = number_given cases at

-- the bytes of what is given: one, or a row or column number's two, lowest first
abbrev pub bytes_of : Kind → ℕ → List ℕ
bytes_of Text value = value % 256 ∷ []
bytes_of Numbers value = value % 256 ∷ []
bytes_of Lines value = value % 256 ∷ value / 256 % 256 ∷ []

-- a field and a page with its bytes laid out from place `len` on, for so many letters or numbers at most
unfoldable pub field_from : Kind → List ℕ → List ℕ → ℕ → ℕ → ℕ → Field × List ℕ
field_from kind cases page len at zero = (field_of cases len at, page)
field_from kind cases page len at (suc k) =
    let next = given cases at kind in
    let bytes = bytes_of kind next.value in
    pick (ends_field (get_or cases at 10)) (field_of cases len at, page) (field_from kind cases (laid page len bytes) (place_past len bytes) next.next k)

-- the field at a place, and a page with its bytes laid out from the start on
unfoldable pub field_at : Kind → List ℕ → ℕ → List ℕ → Field × List ℕ
field_at kind cases at page = field_from kind cases page 0 at (length cases)

-- the list at a place, of row and column numbers or, after the letter b and a blank, of bytes; and a page with it laid out from the start on
unfoldable pub list_at : List ℕ → ℕ → List ℕ → Field × List ℕ
list_at cases at page =
    pick (eqb (get_or cases at 10) 98) (field_at Numbers cases (place_next cases (place_next cases at)) page) (field_at Lines cases at page)

-- an empty page: 128 bytes, all 0
abbrev pub empty_page : List ℕ
empty_page = replicate 128 0

-- a text's start laid out at a page's start and its end before a place, and the place of the next field
unfoldable pub ends_laid : List ℕ → ℕ → ℕ → List ℕ → ℕ × List ℕ
ends_laid cases at stop page =
    let start = field_at Text cases at page in
    let end = field_at Text cases start.0.next empty_page in
    let len = end.0.value in
    (end.0.next, laid start.1 (stop - len) (take len end.1))
