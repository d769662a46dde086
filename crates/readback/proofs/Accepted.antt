-- What an accepted split gives: sizes in their ranges, nonzeros inside and in order, parts 0 or 1.
-- Assumes nothing.
use mathlib.Core.Bool.{true, false}
use mathlib.Core.List.{List}
use mathlib.Core.Path.{◌≡◌}
use mathlib.Core.Logic.{⊎_elim}
use Prim.Native.Nat.{ℕ, suc, ◌+◌, ◌*◌, ◌≤◌, ◌<◌}
use native.Mathlib.Omega.{arith}
use lib.Dec.{ltb, eqb}
use lib.ListN.{length, get_or}
use borrow.Author.Tests.{ltb-true, ltb-false, eqb-true}
use Rattle.counting.specs.Tests.{◌and◌, ◌or◌}
use Rattle.counting.proofs.Joined.{and_left, and_right, or_cases, or_fails_left, or_fails_right}
use Rattle.model.specs.Refusal.{accepted}
use Rattle.model.specs.declared.Word.TheVariants.{BadPart, ShortBuffer}
use Rattle.model.specs.Limits.{line_limit, nonzero_limit}
use Rattle.model.specs.Pattern.{entry_bytes, row_in, column_in}
use Rattle.model.specs.Calls.{sizes_verdict, rises, entry_verdict}
use Rattle.pattern.specs.Measures.{part_verdict}
use Rattle.model.proofs.Theorems.Checks.{then-first, rows_range, columns_range, nonzeros_small, then-second, refuse-not, each_accepted, entry_row, entry_column, entry_rises}
use Rattle.writing.specs.Writing.{nonzero_verdict, write_verdict}
use Rattle.readback.proofs.Rising.{Rising}

-- the cell of nonzero t in a table with line_limit cells for each row
abbrev pub cell_in : List ℕ → ℕ → ℕ
cell_in list t = line_limit * row_in list t + column_in list t

-- a split that the writer accepts
pub record Fine (m n nonzeros : ℕ) (list parts : List ℕ) : Type 0 where
  pub sizes : sizes_verdict m n nonzeros ≡ accepted
  pub rows : m ≤ line_limit
  pub columns : n ≤ line_limit
  pub few : nonzeros ≤ nonzero_limit
  pub list-room : entry_bytes * nonzeros ≤ length list
  pub parts-room : nonzeros ≤ length parts
  pub row-in : (t : ℕ) → t < nonzeros → row_in list t < m
  pub column-in : (t : ℕ) → t < nonzeros → column_in list t < n
  pub part_in : (t : ℕ) → t < nonzeros → get_or parts t 0 ≤ 1
  pub in_order : Rising (cell_in list) nonzeros

-- a nonzero that comes after another has a later cell
later_cell :
    (list : List ℕ) (n t : ℕ) → n ≤ line_limit → column_in list t < n → rises list (suc t) ≡ true → cell_in list t < cell_in list (suc t)
unfolding rises
later_cell list n t b c h =
    let same = eqb (row_in list t) (row_in list (suc t)) in
    let column = ltb (column_in list t) (column_in list (suc t)) in
    ⊎_elim
    (λ e. omega (arith, ltb-true (row_in list t) (row_in list (suc t)) e))
    (λ e. omega (arith, eqb-true (row_in list t) (row_in list (suc t)) (and_left same column e), ltb-true (column_in list t) (column_in list (suc t)) (and_right same column e)))
    (or_cases (ltb (row_in list t) (row_in list (suc t))) (same and column) h)

module _ (m n nonzeros : ℕ) (list parts : List ℕ) (passes : write_verdict m n nonzeros list parts ≡ accepted) where
  sizes_fine : sizes_verdict m n nonzeros ≡ accepted
  unfolding write_verdict
  sizes_fine = then-first _ _ passes

  rooms : ltb (length list) (entry_bytes * nonzeros) or ltb (length parts) nonzeros ≡ false
  unfolding write_verdict
  rooms = refuse-not _ ShortBuffer 0 (then-first _ _ (then-second _ _ passes))

  each : (t : ℕ) → t < nonzeros → nonzero_verdict m n list parts t ≡ accepted
  unfolding write_verdict
  each t l = each_accepted (nonzero_verdict m n list parts) nonzeros t (then-second _ _ (then-second _ _ passes)) l

  entry_accepted : (t : ℕ) → t < nonzeros → entry_verdict m n list t ≡ accepted
  unfolding nonzero_verdict
  entry_accepted t l = then-first (entry_verdict m n list t) (part_verdict parts t) (each t l)

  part_fails : (t : ℕ) → t < nonzeros → ltb 1 (get_or parts t 0) ≡ false
  unfolding nonzero_verdict part_verdict
  part_fails t l = refuse-not (ltb 1 (get_or parts t 0)) BadPart t (then-second (entry_verdict m n list t) _ (each t l))

  pub fine_split : Fine m n nonzeros list parts
  fine_split =
      record {
        sizes = sizes_fine;
        rows = (rows_range m n nonzeros sizes_fine).1;
        columns = (columns_range m n nonzeros sizes_fine).1;
        few = nonzeros_small m n nonzeros sizes_fine;
        list-room = ltb-false (length list) (entry_bytes * nonzeros) (or_fails_left _ (ltb (length parts) nonzeros) rooms);
        parts-room = ltb-false (length parts) nonzeros (or_fails_right (ltb (length list) (entry_bytes * nonzeros)) _ rooms);
        row-in = λ t l. entry_row m n list t (entry_accepted t l);
        column-in = λ t l. entry_column m n list t (entry_accepted t l);
        part_in = λ t l. ltb-false 1 (get_or parts t 0) (part_fails t l);
        in_order =
            record {
              next =
                  λ t l. later_cell list n t (columns_range m n nonzeros sizes_fine).1 (entry_column m n list t (entry_accepted t (omega arith))) (entry_rises m n list (suc t) (entry_accepted (suc t) l));
            };
      }
