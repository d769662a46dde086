-- Document 01, 'Pattern, split, cap', with document 02's requests 2, 4 and 5: a split, its load and volume, the caps of the parts and meeting
-- them, and the cap and rest from a percentage.
-- Assumes nothing.
use Rattle.std.specs.Prelude.{Bool, true, false, not, ◌≡◌, ℕ, ◌+◌, ◌-◌, ◌*◌, ◌/◌, ◌%◌, ◌≤◌, ◌<◌, eqb, ltb}
use Rattle.counting.specs.Tests.{◌and◌, ◌or◌, pick, bit}
use Rattle.counting.specs.Sums.{sum, count, any}
use Rattle.model.specs.declared.Part.{Part}
use Rattle.model.specs.declared.Part.TheVariants.{Zero, One}
use Rattle.model.specs.declared.Caps.{Caps}
use Rattle.model.specs.Limits.{cap_limit}
use Rattle.model.specs.Pattern.{Pattern, lines, on, nonempty, line_total}

-- part 0 or 1, as a number
abbrev pub part_number : Part → ℕ
part_number Zero = 0
part_number One = 1

-- the other part
unfoldable pub other : Part → Part
other Zero = One
other One = Zero

-- the two parts are the same
abbrev pub same_part : Part → Part → Bool
same_part Zero Zero = true
same_part Zero One = false
same_part One Zero = false
same_part One One = true

-- split: gives each nonzero part 0 or 1
abbrev pub Split : Type 0
Split = ℕ → Part

-- line l has nonzeros in part p
unfoldable pub holds : Pattern → Split → Part → ℕ → Bool
holds P σ p l = any (λ t. on P l t and same_part p (σ t)) P.size

-- cut: the line has nonzeros in both parts
unfoldable pub is_cut : Pattern → Split → ℕ → Bool
is_cut P σ l = holds P σ Zero l and holds P σ One l

-- the number of parts that hold some of a line's nonzeros
unfoldable pub parts_on : Pattern → Split → ℕ → ℕ
parts_on P σ l = bit (holds P σ Zero l) + bit (holds P σ One l)

-- volume as published: the number of parts on each line, summed, less one for each line with nonzeros
unfoldable pub volume : Pattern → Split → ℕ
volume P σ = sum (parts_on P σ) (lines P) - line_total P

-- what a line adds to the volume: for each line with nonzeros, the number of parts that hold some of them, less one
unfoldable pub line_volume : Pattern → Split → ℕ → ℕ
line_volume P σ l = pick (nonempty P l) (parts_on P σ l - 1) 0

-- load: a part's number of nonzeros
unfoldable pub load : Pattern → Split → Part → ℕ
load P σ p = count (λ t. same_part p (σ t)) P.size

-- each part's own cap: cap 0 and cap 1
abbrev pub cap_of : Caps → Part → ℕ
cap_of caps Zero = caps.cap0
cap_of caps One = caps.cap1

-- the caps with these numbers
abbrev pub caps_of : ℕ → ℕ → Caps
caps_of cap0 cap1 = record { cap0 = cap0; cap1 = cap1 }

-- equal caps
abbrev pub both_caps : ℕ → Caps
both_caps cap = caps_of cap cap

-- the caps exchanged
unfoldable pub exchanged : Caps → Caps
exchanged caps = caps_of caps.cap1 caps.cap0

-- the caps are unequal
unfoldable pub unequal : Caps → Bool
unequal caps = not (eqb caps.cap0 caps.cap1)

-- either cap is outside its range
unfoldable pub caps_outside : Caps → Bool
caps_outside caps = ltb cap_limit caps.cap0 or ltb cap_limit caps.cap1

-- a split meets the cap, which means both caps
pub record Meets (P : Pattern) (caps : Caps) (σ : Split) : Type 0 where
  pub zero_fits : load P σ Zero ≤ caps.cap0
  pub one_fits : load P σ One ≤ caps.cap1

-- ceiling(x / 2)
unfoldable pub ceiling_half : ℕ → ℕ
ceiling_half x = (x + 1) / 2

-- the cap that a percentage allows, in hundredths: (100 + e) × ceiling(N / 2)
unfoldable pub cap_hundredths : ℕ → ℕ → ℕ
cap_hundredths nonzeros percent = (100 + percent) * ceiling_half nonzeros

-- cap from a percentage, as published: the quotient by 100
unfoldable pub cap_from_percent : ℕ → ℕ → ℕ
cap_from_percent nonzeros percent = cap_hundredths nonzeros percent / 100

-- rest: the remainder, which was cut off
unfoldable pub rest_from_percent : ℕ → ℕ → ℕ
rest_from_percent nonzeros percent = cap_hundredths nonzeros percent % 100

-- (100 + e) × ceiling(N / 2) = 100 × cap + rest, rest 0 to 99
pub record CutOff (nonzeros percent cap rest : ℕ) : Type 0 where
  pub whole : (100 + percent) * ceiling_half nonzeros ≡ 100 * cap + rest
  pub rest_below : rest < 100
