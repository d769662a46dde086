-- The kind of a line, a number of its condition, and what is counted of lines by their kinds and their untaken nonzeros.
-- Assumes nothing.
use Rattle.std.specs.Prelude.{List, ℕ, eqb, ltb, get_or}
use Rattle.counting.specs.Tests.{◌and◌, ◌or◌, pick, bit}
use Rattle.counting.specs.Sums.{sum, count}
use Rattle.model.specs.declared.Part.TheVariants.{Zero, One}
use Rattle.model.specs.declared.Condition.{Condition}
use Rattle.model.specs.declared.Condition.TheVariants.{Marked, Torn, Leaning, Untouched}
use Rattle.model.specs.Pattern.{Pattern, lines, row_line, column_line}
use Rattle.model.specs.Marking.{condition_for}
use Rattle.crossing.specs.Crossing.{over_line}

-- the numbers of an array
abbrev pub cells : List ℕ → ℕ → ℕ
cells xs l = get_or xs l 0

-- a line's kind: the part that it leans to, 3 if it is torn, else 2
abbrev pub kind_number : Condition → ℕ
kind_number (Marked mark) = 2
kind_number Torn = 3
kind_number (Leaning Zero) = 0
kind_number (Leaning One) = 1
kind_number Untouched = 2

-- the kind of a line, from its mark and how many of its crossing lines are marked 0 and 1
unfoldable pub kind_of : ℕ → ℕ → ℕ → ℕ
kind_of mark zeros ones = kind_number (condition_for mark (ltb 0 zeros) (ltb 0 ones))

-- lines of kind p with so many untaken nonzeros
unfoldable pub tally_of : Pattern → (ℕ → ℕ) → (ℕ → ℕ) → ℕ → ℕ → ℕ
tally_of P kind left p x = count (λ l. eqb (kind l) p and eqb (left l) x) (lines P)

-- the untaken nonzeros of the lines of kind p, line by line
unfoldable pub leaning_left : Pattern → (ℕ → ℕ) → (ℕ → ℕ) → ℕ → ℕ
leaning_left P kind left p = sum (λ l. pick (eqb (kind l) p) (left l) 0) (lines P)

-- the sum, over all nonzeros, of a number of the kinds of its two lines
unfoldable pub pairs : Pattern → (ℕ → ℕ → ℕ) → (ℕ → ℕ) → ℕ
pairs P h kind = sum (λ t. h (kind (row_line P t)) (kind (column_line P t))) P.size

-- both lines have kind p
unfoldable pub both_are : ℕ → ℕ → ℕ → ℕ
both_are p a b = bit (eqb a p and eqb b p)

-- one leans to 0 and the other to 1
unfoldable pub apart : ℕ → ℕ → ℕ
apart a b = bit ((eqb a 0 and eqb b 1) or (eqb a 1 and eqb b 0))

-- torn lines
unfoldable pub torn_of : Pattern → (ℕ → ℕ) → ℕ
torn_of P kind = count (λ l. eqb (kind l) 3) (lines P)

-- how many crossing lines of line y have kind p
unfoldable pub near : Pattern → (ℕ → ℕ) → ℕ → ℕ → ℕ
near P kind p y = over_line P y (λ z. bit (eqb (kind z) p))

-- the kinds of lines, but 2 for line y
unfoldable pub without : ℕ → (ℕ → ℕ) → ℕ → ℕ
without y kind z = pick (eqb z y) 2 (kind z)
