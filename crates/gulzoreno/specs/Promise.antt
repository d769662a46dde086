-- Demand 3 for a host: what the C function promises where it answers 0, read off the bytes of its two output slices.
-- Assumes nothing.
use Rattle.std.specs.Prelude.{List, ◌≡◌, ℕ, ◌+◌, ◌*◌, ◌^◌, ◌≤◌, get_or}
use Rattle.counting.specs.Sums.{sum}
use Rattle.model.specs.declared.Caps.{Caps}
use Rattle.model.specs.Pattern.{Pattern}
use Rattle.model.specs.Split.{Split, Meets, volume}
use Rattle.model.specs.Walk.{walked}
use Rattle.model.specs.Calls.{complete_number}
use Rattle.pattern.specs.Splits.{split_of}
use Rattle.gulzoreno.specs.Figures.{figure_bytes}

-- figure f, counted from 0, of a buffer: eight bytes, lowest first
unfoldable pub figure_in : ℕ → List ℕ → ℕ
figure_in f figures = sum (λ i. get_or figures (figure_bytes * f + i) 0 * 256 ^ i) figure_bytes

-- what the parts and the figures say of a pattern under its caps after a budget of tries
pub record Promise (P : Pattern) (caps : Caps) (budget : ℕ) (parts figures : List ℕ) : Type 0 where
  -- the split written meets both caps, and has the volume written as its published volume
  pub meets : Meets P caps (split_of parts)
  pub volume_written : figure_in 0 figures ≡ volume P (split_of parts)
  -- tries and completeness are those of the walk
  pub tries_written : figure_in 1 figures ≡ (walked P caps budget).tries
  pub complete_written : figure_in 3 figures ≡ complete_number (walked P caps budget).complete
  -- every split that meets both caps has at least the floor written as its published volume
  pub floor_below : (σ : Split) → Meets P caps σ → figure_in 2 figures ≤ volume P σ
  -- where complete is 1 the floor is the volume, and so every split that meets both caps has at least the volume written
  pub complete_closed : figure_in 3 figures ≡ 1 → figure_in 2 figures ≡ figure_in 0 figures
  pub complete_least : figure_in 3 figures ≡ 1 → (σ : Split) → Meets P caps σ → figure_in 0 figures ≤ volume P σ
