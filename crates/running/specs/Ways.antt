-- Counts that go up or down: one statement for both ways, which for a way that is known is the plain one.
-- Assumes nothing.
use Rattle.std.specs.Prelude.{Bool, true, false, List, ℕ, ◌+◌, ◌-◌, ◌≤◌, ◌<◌}
use Rattle.model.specs.Pattern.{Pattern}
use Rattle.keeping.specs.Tied.{Takeable, Givable}
use Rattle.keeping.specs.Moves.{Adds, Leavable, Enterable}
use Rattle.keeping.specs.Kept.{none, meets, Takes, Gives}

-- what relates a list to one with more: from the first list to the second on the way up, back on the way down
abbrev pub Way : Bool → (List ℕ → List ℕ → Type 0) → List ℕ → List ℕ → Type 0
Way true more xs ys = more xs ys
Way false more xs ys = more ys xs

-- a number can go so far up and stay below a limit, or so far down
abbrev pub Changeable : Bool → ℕ → ℕ → ℕ → Type 0
Changeable true limit by x = x + by < limit
Changeable false limit by x = by ≤ x

-- a line of this kind can be counted, or be no longer counted
abbrev pub Addable : Bool → ℕ → ℕ → ℕ → ℕ → List ℕ → List ℕ → Type 0
Addable true kind own same other tally sums = Enterable own same other tally sums
Addable false kind own same other tally sums = Leavable kind own same other tally sums

-- it is counted, or no longer counted
abbrev pub Added : Bool → ℕ → ℕ → ℕ → ℕ → List ℕ → List ℕ → List ℕ → List ℕ → Type 0
Added true kind own same other tally sums tally' sums' = Adds kind own same other tally sums tally' sums'
Added false kind own same other tally sums tally' sums' = Adds kind own same other tally' sums' tally sums

-- a number, one up or one down
abbrev pub moved : Bool → ℕ → ℕ
moved true x = x + 1
moved false x = x - 1

-- a nonzero of a line can be taken by a part, or given back
abbrev pub Countable : Bool → List ℕ → List ℕ → List ℕ → List ℕ → List ℕ → ℕ → ℕ → Type 0
Countable true by left kinds tally sums y p = Takeable by left kinds tally sums y p
Countable false by left kinds tally sums y p = Givable by left kinds tally sums y p

-- all nonzeros of a line can
abbrev pub Passable : Bool → List ℕ → List ℕ → List ℕ → List ℕ → List ℕ → List ℕ → List ℕ → List ℕ → ℕ → ℕ → Type 0
Passable true starts cross marks by left kinds tally sums l p = Takes starts cross marks by left kinds tally sums l p
Passable false starts cross marks by left kinds tally sums l p = Gives starts cross marks by left kinds tally sums l p

-- how many nonzeros of each line a part has taken besides: those of line l, or none
abbrev pub besides : Bool → Pattern → ℕ → ℕ → ℕ
besides true P l = meets P l
besides false P l = none
