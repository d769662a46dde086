-- Document 01, 'Texts': the classes of bytes.
-- Assumes nothing.
use Rattle.std.specs.Prelude.{Bool, true, false, not, ℕ, ◌+◌, ◌-◌, eqb, leb}
use Rattle.counting.specs.Tests.{◌and◌, ◌or◌, pick}
use Rattle.scanning.specs.declared.Class.{Class}
use Rattle.scanning.specs.declared.Class.TheVariants.{Digit, Blank, Letter, Percent, LineEnd, Other}
use Rattle.scanning.specs.declared.Stretch.{Stretch}
use Rattle.scanning.specs.declared.Stretch.TheVariants.{Line, Blanks, Nonblanks, Digits}

-- a byte from one to another
unfoldable pub between : ℕ → ℕ → ℕ → Bool
between low high b = leb low b and leb b high

-- the bytes 0 to 9; space and tab; a to z and A to Z; %; LF; anything else
unfoldable pub class_of : ℕ → Class
class_of b =
    pick
    (between 48 57 b)
    Digit
    (pick
    (eqb b 32 or eqb b 9)
    Blank
    (pick
    (between 97 122 b or between 65 90 b)
    Letter
    (pick (eqb b 37) Percent (pick (eqb b 10) LineEnd Other))))

-- digit
abbrev pub is_digit : Class → Bool
is_digit Digit = true
is_digit Blank = false
is_digit Letter = false
is_digit Percent = false
is_digit LineEnd = false
is_digit Other = false

-- blank
abbrev pub is_blank : Class → Bool
is_blank Digit = false
is_blank Blank = true
is_blank Letter = false
is_blank Percent = false
is_blank LineEnd = false
is_blank Other = false

-- percent sign
abbrev pub is_percent : Class → Bool
is_percent Digit = false
is_percent Blank = false
is_percent Letter = false
is_percent Percent = true
is_percent LineEnd = false
is_percent Other = false

-- line end
abbrev pub is_line_end : Class → Bool
is_line_end Digit = false
is_line_end Blank = false
is_line_end Letter = false
is_line_end Percent = false
is_line_end LineEnd = true
is_line_end Other = false

-- the bytes that a stretch goes on over: all but a line end, blanks, all but blanks, digits
abbrev pub stretches_over : Stretch → Class → Bool
stretches_over Line c = not (is_line_end c)
stretches_over Blanks c = is_blank c
stretches_over Nonblanks c = not (is_blank c)
stretches_over Digits c = is_digit c

-- a capital letter as a small one
unfoldable pub small_letter : ℕ → ℕ
small_letter b = pick (between 65 90 b) (b + 32) b

-- any letter case, or this case
unfoldable pub cased : Bool → ℕ → ℕ
cased any b = pick any (small_letter b) b

-- the value of a decimal digit
unfoldable pub digit_of : ℕ → ℕ
digit_of b = pick (between 48 57 b) (b - 48) 0
