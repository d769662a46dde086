-- What an accepted opening says of its pattern: every nonzero lies in the matrix, the rows rise, and a split can meet the caps.
-- Assumes nothing.
use mathlib.Core.Bool.{true, false}
use mathlib.Core.List.{List}
use mathlib.Core.Path.{◌≡◌}
use Prim.Native.Nat.{ℕ, ◌+◌, ◌*◌, ◌≤◌, ◌<◌}
use lib.Dec.{ltb}
use lib.ListN.{length}
use borrow.Author.Tests.{ltb-false}
use Rattle.counting.proofs.Joined.{or_fails_left, or_fails_right}
use Rattle.model.specs.declared.Part.{Part}
use Rattle.model.specs.declared.Part.TheVariants.{Zero, One}
use Rattle.model.specs.declared.Word.TheVariants.{ShortBuffer, Cap, NoSplit}
use Rattle.model.specs.declared.Caps.{Caps}
use Rattle.model.specs.Limits.{line_limit, nonzero_limit, cap_limit}
use Rattle.model.specs.Refusal.{accepted, refuse, ◌then◌}
use Rattle.model.specs.Split.{cap_of, caps_outside}
use Rattle.model.specs.Pattern.{Inside, entry_bytes, row_in, column_in, pattern_of}
use Rattle.model.specs.Calls.{sizes_verdict, rises, entry_verdict, entries_verdict, list_verdict, open_verdict}
use Rattle.model.proofs.Theorems.Checks.{refuse-not, then-first, then-second, each_accepted, rows_range, columns_range, nonzeros_small, nonzeros_fit, entry_row, entry_column, entry_rises}

-- a list that is accepted: sizes in range, bytes enough, and each nonzero in the matrix and behind the one before it
pub record ListFine (m n nonzeros : ℕ) (list : List ℕ) : Type 0 where
  pub rows_from : 1 ≤ m
  pub rows_to : m ≤ line_limit
  pub columns-from : 1 ≤ n
  pub columns_to : n ≤ line_limit
  pub size_to : nonzeros ≤ nonzero_limit
  pub cells_to : nonzeros ≤ m * n
  pub long : entry_bytes * nonzeros ≤ length list
  pub row-in : (t : ℕ) → t < nonzeros → row_in list t < m
  pub column-in : (t : ℕ) → t < nonzeros → column_in list t < n
  pub rising : (t : ℕ) → t < nonzeros → rises list t ≡ true

-- the checks of an accepted list, each of which refuses nothing
module _ (m n nonzeros : ℕ) (list : List ℕ) (h : list_verdict m n nonzeros list ≡ accepted) where
  front : sizes_verdict m n nonzeros then refuse (ltb (length list) (entry_bytes * nonzeros)) ShortBuffer 0 ≡ accepted
  unfolding list_verdict
  front = then-first _ (entries_verdict m n list nonzeros) h

  sizes : sizes_verdict m n nonzeros ≡ accepted
  sizes = then-first _ (refuse (ltb (length list) (entry_bytes * nonzeros)) ShortBuffer 0) front

  entry : (t : ℕ) → t < nonzeros → entry_verdict m n list t ≡ accepted
  unfolding list_verdict
  entry t b = each_accepted (entry_verdict m n list) nonzeros t (then-second _ (entries_verdict m n list nonzeros) h) b

  -- what an accepted list is
  pub list_accepted : ListFine m n nonzeros list
  list_accepted =
      record {
        rows_from = (rows_range m n nonzeros sizes).0;
        rows_to = (rows_range m n nonzeros sizes).1;
        columns-from = (columns_range m n nonzeros sizes).0;
        columns_to = (columns_range m n nonzeros sizes).1;
        size_to = nonzeros_small m n nonzeros sizes;
        cells_to = nonzeros_fit m n nonzeros sizes;
        long = ltb-false
            (length list)
            (entry_bytes * nonzeros)
            (refuse-not _ ShortBuffer 0 (then-second (sizes_verdict m n nonzeros) _ front));
        row-in = λ t b. entry_row m n list t (entry t b);
        column-in = λ t b. entry_column m n list t (entry t b);
        rising = λ t b. entry_rises m n list t (entry t b);
      }

  -- its nonzeros lie in the matrix
  pub accepted_inside : Inside (pattern_of m n nonzeros list)
  unfolding pattern_of
  accepted_inside =
      record {
        row-in = λ t b. list_accepted.row-in t b;
        column-in = λ t b. list_accepted.column-in t b;
      }

-- an accepted opening: the list is accepted, each cap is in range, and a split can meet both
pub record OpenFine (m n nonzeros : ℕ) (list : List ℕ) (caps : Caps) : Type 0 where
  pub listed : list_verdict m n nonzeros list ≡ accepted
  pub caps_to : caps_outside caps ≡ false
  pub enough : nonzeros ≤ caps.cap0 + caps.cap1

-- caps in range are at most the limit
pub caps_ranged :
    (caps : Caps) → caps_outside caps ≡ false → (p : Part) → cap_of caps p ≤ cap_limit
unfolding caps_outside
caps_ranged caps h Zero = ltb-false cap_limit caps.cap0 (or_fails_left (ltb cap_limit caps.cap0) (ltb cap_limit caps.cap1) h)
caps_ranged caps h One = ltb-false cap_limit caps.cap1 (or_fails_right (ltb cap_limit caps.cap0) (ltb cap_limit caps.cap1) h)

module _ (m n nonzeros : ℕ) (list : List ℕ) (caps : Caps) (h : open_verdict m n nonzeros list caps ≡ accepted) where
  -- up to 11
  ranged : list_verdict m n nonzeros list then refuse (caps_outside caps) Cap 0 ≡ accepted
  unfolding open_verdict
  ranged = then-first _ (refuse (ltb (caps.cap0 + caps.cap1) nonzeros) NoSplit 0) h

  pub open_accepted : OpenFine m n nonzeros list caps
  unfolding open_verdict
  open_accepted =
      record {
        listed = then-first _ (refuse (caps_outside caps) Cap 0) ranged;
        caps_to = refuse-not _ Cap 0 (then-second (list_verdict m n nonzeros list) _ ranged);
        enough = ltb-false (caps.cap0 + caps.cap1) nonzeros (refuse-not _ NoSplit 0 (then-second _ _ h));
      }
