-- A split given as bytes, and the lines that a part holds, held nonzero by nonzero.
-- Assumes nothing.
use Rattle.std.specs.Prelude.{Bool, List, ℕ, zero, suc, ◌+◌, eqb, get_or, set, replicate}
use Rattle.counting.specs.Tests.{◌and◌, pick}
use Rattle.counting.specs.Sums.{count}
use Rattle.model.specs.Limits.{line_room}
use Rattle.model.specs.declared.Part.{Part}
use Rattle.model.specs.declared.Part.TheVariants.{Zero, One}
use Rattle.model.specs.Pattern.{row_in, column_in}
use Rattle.model.specs.Split.{Split, same_part}

-- the split of a list of parts: byte 0 is part 0, any other byte part 1
unfoldable pub split_of : List ℕ → Split
split_of parts t = pick (eqb (get_or parts t 0) 0) Zero One

-- nonzero t is in part p
unfoldable pub in_part : List ℕ → Part → ℕ → Bool
in_part parts p t = same_part p (split_of parts t)

-- load of the first nonzeros
unfoldable pub load_of : List ℕ → ℕ → Part → ℕ
load_of parts nonzeros p = count (in_part parts p) nonzeros

-- no line held; there is a place for every line
unfoldable pub no_lines : List ℕ
no_lines = replicate line_room 0

-- both lines of nonzero t held, where it is in part p
unfoldable pub held_with : ℕ → List ℕ → List ℕ → Part → ℕ → List ℕ → List ℕ
held_with m list parts p t held =
    pick (in_part parts p t) (set (set held (row_in list t) 1) (m + column_in list t) 1) held

-- the lines of the first nonzeros held
unfoldable pub held_lines : ℕ → List ℕ → List ℕ → Part → ℕ → List ℕ
held_lines m list parts p zero = no_lines
held_lines m list parts p (suc t) = held_with m list parts p t (held_lines m list parts p t)

-- line l is held
unfoldable pub is_held : List ℕ → ℕ → Bool
is_held held l = eqb (get_or held l 0) 1

-- line l is held in both lists
unfoldable pub both_held : List ℕ → List ℕ → ℕ → Bool
both_held zeros ones l = is_held zeros l and is_held ones l
