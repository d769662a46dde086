-- The state check on the struct of a search, by the validity of its markings.
-- Assumes nothing.
use Rattle.std.specs.Prelude.{Bool, true, false, not, ℕ, ◌+◌, eqb, leb}
use Rattle.counting.specs.Tests.{◌and◌, pick}
use Rattle.trail.specs.declared.Trail.{Trail}
use Rattle.model.specs.declared.Search.{Search}
use Rattle.model.specs.Split.{caps_outside}
use Rattle.model.specs.State.{caps_in, counts_fine}
use Rattle.state.specs.Legal.{marks_legal, ones_legal, cuts_in}

-- the trail, where its longest proper beginning is valid or not, and mark 1 may come first or not
unfoldable pub trail_by : Bool → Trail → ℕ → Bool → Bool → Bool
trail_by true trail k valid first = eqb trail.len 0
trail_by false trail k valid first =
    not (eqb trail.len 0)
    and leb trail.len k
    and valid
    and marks_legal trail.marks trail.len
    and ones_legal first trail.marks trail.len

-- a best marking, where it is valid or not
unfoldable pub full_by : Trail → ℕ → Bool → ℕ → Bool
full_by best k valid count =
    eqb best.len k
    and valid
    and marks_legal best.marks best.len
    and eqb (cuts_in best.marks best.len) count

-- a best marking, or none
unfoldable pub best_by : Search → ℕ → Bool → Bool
best_by s k valid =
    pick s.found (full_by s.best k valid s.best_count) (not s.complete and eqb s.best_count (k + 1))

-- m, n and N are the list's, and caps, tries and looks are in range
unfoldable pub numbers_by : Search → ℕ → ℕ → ℕ → Bool
numbers_by s m n nonzeros =
    eqb s.m m
    and eqb s.n n
    and eqb s.nonzeros nonzeros
    and not (caps_outside (caps_in s))
    and leb nonzeros (s.cap0 + s.cap1)
    and counts_fine s.tries s.looks m nonzeros
