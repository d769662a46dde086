-- Document 02, request 6: the search for the matching of L4, to the letter, and its looks. It goes from row to column over conflicts, and from a
-- matched column back to its row.
-- Assumes nothing.
use Rattle.std.specs.Prelude.{Bool, true, false, List, [], ◌∷◌, ℕ, zero, suc, pred, ◌+◌, eqb, ltb}
use Rattle.counting.specs.Tests.{◌and◌, ◌or◌, pick, bit}
use Rattle.counting.specs.Sums.{count, any}
use Rattle.model.specs.Pattern.{Pattern}
use Rattle.model.specs.Marking.{Marking}
use Rattle.model.specs.Bound.{conflict}

-- the columns of the nonzeros that pass a test, among n of them from nonzero t on
unfoldable pub columns_where : (ℕ → Bool) → (ℕ → ℕ) → ℕ → ℕ → List ℕ
columns_where test column zero t = []
columns_where test column (suc n) t =
    let others = columns_where test column n (suc t) in
    pick (test t) (column t ∷ others) others

-- nonzero t is a conflict of row i
unfoldable pub conflict_of : Pattern → Marking → ℕ → ℕ → Bool
conflict_of P μ i t = conflict P μ t and eqb (P.row t) i

-- conflict columns of row i: ascending, as for an accepted list the columns of a row's nonzeros rise with their numbers
unfoldable pub conflict_columns : Pattern → Marking → ℕ → List ℕ
conflict_columns P μ i = columns_where (conflict_of P μ i) P.column P.size 0

-- ascending: each column is below the next
unfoldable pub ascending : List ℕ → Bool
ascending [] = true
ascending (j ∷ []) = true
ascending (j ∷ c ∷ js) = ltb j c and ascending (c ∷ js)

-- where a search is: whether it ended at an unmatched column, its looks so far, the columns entered in this start, and the mate of each
-- column: its row + 1, or 0 for an unmatched one
pub record Visited : Type 0 where
  pub found : Bool
  pub looks : ℕ
  pub entered : ℕ → Bool
  pub mate : ℕ → ℕ

abbrev pub visited : Bool → ℕ → (ℕ → Bool) → (ℕ → ℕ) → Visited
visited found looks entered mate = record { found = found; looks = looks; entered = entered; mate = mate }

-- what a visit of column j for row i makes of the columns entered and the mates
abbrev pub Visit : Type 0
Visit = ℕ → ℕ → (ℕ → Bool) → (ℕ → ℕ) → Visited

-- so many looks were made before
unfoldable pub looked : ℕ → Visited → Visited
looked x o = visited o.found (x + o.looks) o.entered o.mate

-- a visit that ended at an unmatched column ends the start; after any other the search goes on
unfoldable pub else_go : Visited → ((ℕ → Bool) → (ℕ → ℕ) → Visited) → Visited
else_go o next = pick o.found o (looked o.looks (next o.entered o.mate))

-- row i goes through conflict columns: each conflict met is one look, its column entered before or not
unfoldable pub through : Visit → ℕ → List ℕ → (ℕ → Bool) → (ℕ → ℕ) → Visited
through visit i [] entered mate = visited false 0 entered mate
through visit i (j ∷ js) entered mate = looked 1 (else_go (visit j i entered mate) (through visit i js))

-- the columns entered, and column j
unfoldable pub with_column : (ℕ → Bool) → ℕ → ℕ → Bool
with_column entered j c = eqb c j or entered c

-- the mates, but x for column j
unfoldable pub with_mate : (ℕ → ℕ) → ℕ → ℕ → ℕ → ℕ
with_mate mate j x c = pick (eqb c j) x (mate c)

-- column j, whose row found another column, gets row i; else its mate stays
unfoldable pub hand_over : ℕ → ℕ → Visited → Visited
hand_over j i o =
    visited o.found o.looks o.entered (pick o.found (with_mate o.mate j (suc i)) o.mate)

-- column j is visited for row i: nothing if it was entered before; else it is entered. Unmatched it gets row i; else its row goes through
-- that row's conflict columns
unfoldable pub column_step : (ℕ → List ℕ) → Visit → Visit
column_step columns visit j i entered mate =
    let row = pred (mate j) in
    pick
    (entered j)
    (visited false 0 entered mate)
    (pick
    (eqb (mate j) 0)
    (visited true 0 (with_column entered j) (with_mate mate j (suc i)))
    (hand_over j i (through visit row (columns row) (with_column entered j) mate)))

-- the visit of a column, depth first, with at most so many columns entered one below the other
unfoldable pub column_within : (ℕ → List ℕ) → ℕ → Visit
column_within columns zero j i entered mate = visited false 0 entered mate
column_within columns (suc depth) j i entered mate = column_step columns (column_within columns depth) j i entered mate

-- a start from row i, with no column entered; n columns can be entered, each at most once. A row without conflicts makes no look
unfoldable pub start_from : (ℕ → List ℕ) → ℕ → ℕ → (ℕ → ℕ) → Visited
start_from columns n i mate = through (column_within columns n) i (columns i) (λ j. false) mate

-- the starts that ended at an unmatched column, the looks of all, and the mates they leave
pub record Tally : Type 0 where
  pub size : ℕ
  pub looks : ℕ
  pub mate : ℕ → ℕ

abbrev pub tally : ℕ → ℕ → (ℕ → ℕ) → Tally
tally size looks mate = record { size = size; looks = looks; mate = mate }

-- one start more
unfoldable pub counted : Tally → Visited → Tally
counted k o = tally (k.size + bit o.found) (k.looks + o.looks) o.mate

-- a start from each of the first i rows, ascending, with every column unmatched at first
unfoldable pub starts_from : (ℕ → List ℕ) → ℕ → ℕ → Tally
starts_from columns n zero = tally 0 0 (λ j. 0)
starts_from columns n (suc i) =
    let k = starts_from columns n i in
    counted k (start_from columns n i k.mate)

-- the search: from each row in turn, over the conflicts
unfoldable pub matching_search : Pattern → Marking → Tally
matching_search P μ = starts_from (conflict_columns P μ) P.n P.m

-- looks: the conflicts that all starts met
unfoldable pub looks : Pattern → Marking → ℕ
looks P μ = (matching_search P μ).looks

-- E: the number of conflicts
unfoldable pub conflicts : Pattern → Marking → ℕ
conflicts P μ = count (conflict P μ) P.size

-- R: the number of conflict rows
unfoldable pub conflict_rows : Pattern → Marking → ℕ
conflict_rows P μ = count (λ i. any (conflict_of P μ i) P.size) P.m
