-- The bound of a marking from what is kept of it.
-- Assumes nothing.
use Rattle.std.specs.Prelude.{List, ℕ, ◌+◌, ◌-◌, max, eqb, get_or}
use Rattle.counting.specs.Tests.{pick}
use Rattle.model.specs.declared.Mark.TheVariants.{Cut}
use Rattle.model.specs.declared.Caps.{Caps}
use Rattle.model.specs.Marking.{mark_number}
use Rattle.model.specs.Bound.{falling, strikes}
use Rattle.keeping.specs.Tied.{both_place, torn_place, tally_place}

-- the cap of a part, by its number
unfoldable pub cap_at : Caps → ℕ → ℕ
cap_at caps p = pick (eqb p 0) caps.cap0 caps.cap1

-- the lines struck for a part, with no unmarked line of more than `top` nonzeros
unfoldable pub struck_from : List ℕ → List ℕ → List ℕ → Caps → ℕ → ℕ → ℕ
struck_from tally sums loads caps top p =
    strikes
    (falling (λ x. get_or tally (tally_place p x) 0) top)
    (get_or sums p 0 - get_or sums (both_place p) 0)
    (cap_at caps p - get_or loads p 0)

-- the bound, with the size of the matching
unfoldable pub bound_from : List ℕ → List ℕ → List ℕ → Caps → ℕ → ℕ → ℕ
bound_from tally sums loads caps top matched =
    get_or loads (mark_number Cut) 0
    + get_or sums torn_place 0
    + max (struck_from tally sums loads caps top 0 + struck_from tally sums loads caps top 1) matched
