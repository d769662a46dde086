-- Document 01, 'Texts': what it is that a text reads as a split.
-- Assumes nothing.
use Rattle.std.specs.Prelude.{true, List, ◌≡◌, ℕ, ◌*◌, ◌≤◌, ◌<◌, length, get_or}
use Rattle.model.specs.Pattern.{entry_bytes}
use Rattle.texts.specs.Reading.{read_as}
use Rattle.texts.specs.Reading.{read_call, read_list, read_parts}

-- the first numbers of a list are bytes, as every number of a slice of bytes is
pub record Bytes (list : List ℕ) (size : ℕ) : Type 0 where
  pub byte : (i : ℕ) → i < size → get_or list i 0 < 256

-- a slice's bytes after so many bytes were written to it: those bytes, and past them the bytes that were there
pub record Filled (new bytes old : List ℕ) (size : ℕ) : Type 0 where
  pub same_length : length new ≡ length old
  pub first_bytes : (i : ℕ) → i < size → get_or new i 0 ≡ get_or bytes i 0
  pub other_bytes : (i : ℕ) → size ≤ i → get_or new i 0 ≡ get_or old i 0

-- read into two slices, a text gives this split
pub record ReadsAs (text : List ℕ) (m n nonzeros : ℕ) (list parts list-slice parts-slice : List ℕ) : Type 0 where
  pub answer : read_call text list-slice parts-slice ≡ read_as m n nonzeros true
  pub list_back : Filled (read_list text list-slice parts-slice) list list-slice (entry_bytes * nonzeros)
  pub parts_back : Filled (read_parts text list-slice parts-slice) parts parts-slice nonzeros
