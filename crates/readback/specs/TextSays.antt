-- Document 01, 'Texts', and request 1 of document 02: what a text says by its lines after the size line, and that a list and parts say the same.
-- Assumes nothing.
use Rattle.std.specs.Prelude.{Bool, true, false, not, Ok, List, ◌≡◌, ◌↔◌, ◌⊎◌, ℕ, zero, suc, ◌+◌, ◌*◌, ◌≤◌, ◌<◌, eqb, ltb, length, get_or}
use Rattle.counting.specs.Tests.{◌and◌}
use Rattle.counting.specs.Sums.{count}
use Rattle.model.specs.Pattern.{row_in, column_in}
use Rattle.scanning.specs.declared.Numbers.{Numbers}
use Rattle.scanning.specs.Lines.{line_next, empty_line}
use Rattle.scanning.specs.Words.{numbers_in, is_integer}
use Rattle.texts.specs.declared.Header.{Header}
use Rattle.texts.specs.Header.{header_of}
use Rattle.texts.specs.Entries.{entry_at}

-- the offset of the first byte of line k after the size line, counted from 0; not below the text's length where there is no such line
unfoldable pub line_below : List ℕ → ℕ → ℕ
line_below text zero = (header_of text).next
line_below text (suc k) = line_next text (line_below text k)

-- line k after the size line is there and is not empty: it is an entry's line
unfoldable pub is_entry : List ℕ → ℕ → Bool
is_entry text k = ltb (line_below text k) (length text) and not (empty_line text (line_below text k))

-- the numbers of that line, "i j", "i j p" for integer or "i j v" for real; without p the third is 1
unfoldable pub entry_below : List ℕ → ℕ → Numbers
entry_below text k = numbers_in (entry_at text (header_of text) (line_below text k))

-- it is an entry's line, and the entry is on the diagonal
unfoldable pub on_diagonal : List ℕ → ℕ → Bool
on_diagonal text k = is_entry text k and eqb (entry_below text k).first (entry_below text k).second

-- the line has the form of an entry, with row and column inside the matrix, for symmetric not above the diagonal, and p is 1 or 2
pub record InForm (text : List ℕ) (k : ℕ) : Type 0 where
  pub form : entry_at text (header_of text) (line_below text k) ≡ Ok (entry_below text k)
  pub row_from : 1 ≤ (entry_below text k).first
  pub row_to : (entry_below text k).first ≤ (header_of text).m
  pub column_from : 1 ≤ (entry_below text k).second
  pub column_to : (entry_below text k).second ≤ (header_of text).n
  pub below : (header_of text).symmetric ≡ true → (entry_below text k).second ≤ (entry_below text k).first
  pub part_from : 1 ≤ (entry_below text k).third
  pub part_to : (entry_below text k).third ≤ 2

-- an entry stands for row i and column j, counted from 1: they are its own, or for symmetric the two exchanged
abbrev pub StandsFor : Header → Numbers → ℕ → ℕ → Type 0
StandsFor h e i j =
    ((e.first ≡ i) × (e.second ≡ j)) ⊎ ((h.symmetric ≡ true) × (e.second ≡ i) × (e.first ≡ j))

-- line k after the size line is not empty and gives row i and column j, counted from 1
pub record LineGives (text : List ℕ) (k i j : ℕ) : Type 0 where
  pub entry : is_entry text k ≡ true
  pub stands : StandsFor (header_of text) (entry_below text k) i j

-- some line after the size line gives row i and column j, counted from 1
pub record TextGives (text : List ℕ) (i j : ℕ) : Type 0 where
  pub line : ℕ
  pub gives : LineGives text line i j

-- (row, column), counted from 0, is in a list of so many nonzeros
pub record InList (list : List ℕ) (nonzeros row column : ℕ) : Type 0 where
  pub nonzero : ℕ
  pub numbered : nonzero < nonzeros
  pub row_is : row_in list nonzero ≡ row
  pub column_is : column_in list nonzero ≡ column

-- a list, parts and sizes are what a text says
pub record TextSays (text list parts : List ℕ) (m n nonzeros : ℕ) (integer : Bool) : Type 0 where
  -- the numbers m n of the size line, for symmetric the same, and the F of the first line
  pub m_is : (header_of text).m ≡ m
  pub n_is : (header_of text).n ≡ n
  pub square : (header_of text).symmetric ≡ true → m ≡ n
  pub integer_is : is_integer (header_of text).field ≡ integer
  -- each line after the size line that is not empty has the form of an entry
  pub in_form : (k : ℕ) → is_entry text k ≡ true → InForm text k
  -- the size line has their number: all of them are among the first lines after it, looking at as many as the text has bytes
  pub among : (k : ℕ) → is_entry text k ≡ true → k < length text
  pub entries_are : count (is_entry text) (length text) ≡ (header_of text).entries
  -- N is that number, and for symmetric twice that number less the entries on the diagonal
  pub number : (header_of text).symmetric ≡ false → nonzeros ≡ (header_of text).entries
  pub opened_number :
      (header_of text).symmetric ≡ true → nonzeros + count (on_diagonal text) (length text) ≡ 2 * (header_of text).entries
  -- no two of them give the same nonzero
  pub once : (j k row column : ℕ) → LineGives text j row column → LineGives text k row column → j ≡ k
  -- (row, column) is in the list exactly if one of them gives it, counted from 1
  pub list_says : (row column : ℕ) → InList list nonzeros row column ↔ TextGives text (row + 1) (column + 1)
  -- for integer the part of a nonzero is the one given there: 1 for part 0 and 2 for part 1
  pub parts_say :
      integer ≡ true → (t k : ℕ) → t < nonzeros → LineGives text k (row_in list t + 1) (column_in list t + 1) →
      (entry_below text k).third ≡ get_or parts t 0 + 1

-- the list of a symmetric text: with (i, j) it holds (j, i), and for integer both are in one part
pub record Mirrored (list parts : List ℕ) (nonzeros : ℕ) (integer : Bool) : Type 0 where
  pub list_mirrored : (row column : ℕ) → InList list nonzeros row column → InList list nonzeros column row
  pub parts_mirrored :
      integer ≡ true → (s t : ℕ) → s < nonzeros → t < nonzeros → row_in list s ≡ column_in list t → column_in list s ≡ row_in list t →
      get_or parts s 0 ≡ get_or parts t 0

-- two texts give the same nonzeros in matrices of one size, as a symmetric text and its opened form do
pub record SameNonzeros (one other : List ℕ) : Type 0 where
  pub rows : (header_of one).m ≡ (header_of other).m
  pub columns : (header_of one).n ≡ (header_of other).n
  pub gives : (i j : ℕ) → TextGives one i j ↔ TextGives other i j
