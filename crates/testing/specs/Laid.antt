-- Bytes and marks laid out in a page.
-- Assumes nothing.
use Rattle.std.specs.Prelude.{List, [], ◌∷◌, ℕ, ◌+◌, ltb, eqb, set}
use Rattle.counting.specs.Tests.{pick}

-- the place after another, up to a million
abbrev pub place_after : ℕ → ℕ
place_after at = pick (ltb at 1000000) (at + 1) at

-- the place after bytes that are laid out from a place on
abbrev pub place_past : ℕ → List ℕ → ℕ
place_past at [] = at
place_past at (b ∷ bytes) = place_past (place_after at) bytes

-- a page with bytes laid out in it from a place on
abbrev pub laid : List ℕ → ℕ → List ℕ → List ℕ
laid page at [] = page
laid page at (b ∷ bytes) = laid (set page at b) (place_after at) bytes

-- the mark that a letter stands for: 0, 1, c for cut, any other letter for a byte that is no mark
abbrev pub mark_of : ℕ → ℕ
mark_of letter = pick (eqb letter 48) 0 (pick (eqb letter 49) 1 (pick (eqb letter 99) 2 3))

-- a page with the marks of letters laid out in it from a place on
abbrev pub marks_laid : List ℕ → ℕ → List ℕ → List ℕ
marks_laid page at [] = page
marks_laid page at (letter ∷ letters) = marks_laid (set page at (mark_of letter)) (at + 1) letters
