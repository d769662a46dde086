-- Document 02, request 6: what the arrays of the code say of the matching's search, which the model defines.
-- Assumes nothing.
use Rattle.std.specs.Prelude.{Bool, List, [], ◌∷◌, ◌≡◌, ℕ, zero, suc, ◌+◌, ◌-◌, ◌*◌, ◌%◌, ◌≤◌, eqb, ltb, length, get_or, replicate}
use Rattle.counting.specs.Tests.{◌and◌, ◌or◌, pick, bit}
use Rattle.model.specs.Pattern.{column_in}
use Rattle.model.specs.Matching.{Visited, visited, looked, columns_where, through, column_within, start_from, Tally, starts_from}
pub use Rattle.matching.specs.Starts.{side_room}
use Rattle.matching.specs.declared.augmenting.Ground as code
use Rattle.matching.specs.declared.augmenting.Visit.{Visit}
use Rattle.matching.specs.declared.augmenting.Matching.{Matching}

-- what the search goes over: the part that each line leans to (0 or 1, any other number for neither), the number of rows,
-- the list of nonzeros, and where each row starts in it: row i has the nonzeros numbered from starts[i] to starts[i + 1] - 1
pub record Ground : Type 0 where
  pub lean : List ℕ
  pub m : ℕ
  pub list : List ℕ
  pub starts : List ℕ

abbrev pub ground_of : List ℕ → ℕ → List ℕ → List ℕ → Ground
ground_of lean m list starts = record { lean = lean; m = m; list = list; starts = starts }

-- as the code holds it
abbrev pub ground_in : code.Ground → Ground
ground_in g = ground_of g.lean.now g.m g.list.now g.starts.now

-- one leans to part 0 and the other to part 1
unfoldable pub different : ℕ → ℕ → Bool
different a b = (eqb a 0 and eqb b 1) or (eqb a 1 and eqb b 0)

-- row i and column j lean to different parts; a column past the last that the arrays have room for is at odds with none
unfoldable pub at_odds : List ℕ → ℕ → ℕ → ℕ → Bool
at_odds lean m i j = ltb j side_room and different (get_or lean i 0) (get_or lean (m + j) 0)

-- a row's columns at odds with it, among n of its nonzeros from nonzero t on
unfoldable pub columns_from : Ground → ℕ → ℕ → ℕ → List ℕ
columns_from G i n t =
    columns_where (λ s. at_odds G.lean G.m i (column_in G.list s)) (column_in G.list) n t

-- all of its columns at odds with it; a row past the last that the arrays have room for has none
unfoldable pub columns_in : Ground → ℕ → List ℕ
columns_in G i =
    pick
    (ltb i side_room)
    (columns_from G i (get_or G.starts (i + 1) 0 - get_or G.starts i 0) (get_or G.starts i 0))
    []

-- the columns entered, in an array that has 0 for a column that is not
unfoldable pub entered_in : List ℕ → ℕ → Bool
entered_in seen j = ltb 0 (get_or seen j 0)

-- the mate that a number of an array stands for: 0, or row + 1, of a row that the arrays have room for
unfoldable pub mate_of : ℕ → ℕ
mate_of zero = 0
mate_of (suc x) = suc (x % side_room)

-- the mates in an array
unfoldable pub mates_in : List ℕ → ℕ → ℕ
mates_in mate j = mate_of (get_or mate j 0)

-- the columns of an array not yet entered
unfoldable pub unseen : List ℕ → ℕ
unseen [] = 0
unseen (x ∷ xs) = bit (eqb x 0) + unseen xs

-- more nonzeros than a row can have by its starts
abbrev pub row_room : ℕ
row_room = 65536

-- what a visit of the code leaves behind: the arrays keep their lengths, its looks are paid for by the columns that it entered, but for a few,
-- and it is the visit of the search, however deep that may go
pub record Visits (few : ℕ) (visit : ℕ → Visited) (r : Visit) (before seen mate : List ℕ) : Type 0 where
  pub seen_long : length seen ≡ side_room
  pub mate_long : length mate ≡ side_room
  pub paid : r.looks + row_room * unseen seen ≤ few + row_room * unseen before
  pub is :
      (depth : ℕ) → unseen before ≤ depth →
      visited r.found r.looks (entered_in seen) (mates_in mate) ≡ visit depth

-- row i goes through its columns
abbrev pub RowVisits : Ground → ℕ → List ℕ → List ℕ → Visit → List ℕ → List ℕ → Type 0
RowVisits G i seen₀ mate₀ r seen mate =
    Visits
    (row_room - 1)
    (λ depth. through (column_within (columns_in G) depth) i (columns_in G i) (entered_in seen₀) (mates_in mate₀))
    r
    seen₀
    seen
    mate

-- the conflict of row i and column j is met, and the column is visited
abbrev pub ColumnVisits : Ground → ℕ → ℕ → List ℕ → List ℕ → Visit → List ℕ → List ℕ → Type 0
ColumnVisits G j i seen₀ mate₀ r seen mate =
    Visits
    1
    (λ depth. looked 1 (column_within (columns_in G) depth j i (entered_in seen₀) (mates_in mate₀)))
    r
    seen₀
    seen
    mate

-- no column entered, or every column unmatched
unfoldable pub no_columns : List ℕ
no_columns = replicate side_room 0

-- a start from row i
pub record Starts (G : Ground) (i : ℕ) (mate₀ : List ℕ) (r : Visit) (mate : List ℕ) : Type 0 where
  pub mate_long : length mate ≡ side_room
  pub few : r.looks ≤ row_room * (side_room + 1)
  pub found_is : r.found ≡ (start_from (columns_in G) side_room i (mates_in mate₀)).found
  pub looks_is : r.looks ≡ (start_from (columns_in G) side_room i (mates_in mate₀)).looks
  pub mate_is : mates_in mate ≡ (start_from (columns_in G) side_room i (mates_in mate₀)).mate

-- the starts from each row in turn
unfoldable pub searched : Ground → Tally
searched G = starts_from (columns_in G) side_room G.m

-- size and looks
unfoldable pub matching_in : Ground → Matching
matching_in G = record { size = (searched G).size; looks = (searched G).looks }
