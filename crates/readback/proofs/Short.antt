-- A written text has at most 40,228 bytes, and so is short enough to be read.
-- Assumes nothing.
use mathlib.Core.List.{List, ◌++◌}
use mathlib.Core.Path.{ap}
use Prim.Native.Nat.{ℕ, zero, suc, ◌+◌, ◌*◌, ◌^◌, ◌≤◌, ◌<◌}
use native.Mathlib.Omega.{arith}
use lib.ListN.{length, get_or, length-append}
use Rattle.model.specs.Limits.{nonzero_limit}
use Rattle.model.specs.Pattern.{row_in, column_in}
use Rattle.texts.specs.Header.{text_limit}
use Rattle.writing.specs.declared.Figures.{Figures}
use Rattle.writing.specs.Written.{sizes_text, entry_text, entries_text, head_text, body_text, text_of}
use Rattle.writing.proofs.Puttings.{head_short}
use Rattle.writing.proofs.Decimals.{decimals_fit}
use Rattle.writing.proofs.Back.{sizes_length}
use Rattle.readback.proofs.Accepted.{Fine}
use Rattle.readback.proofs.Lines.{entries_none, entries-length}

-- the most bytes of a written text: 215 of its first two lines, 13 of its size line, and ten of each entry
abbrev pub written_most : ℕ
written_most = 215 + 13 + 10 * nonzero_limit

-- a line of three numbers with so many digits at most: their digits, two spaces and LF
line_short :
    (i j k a b c : ℕ) → a < 10 ^ suc i → b < 10 ^ suc j → c < 10 ^ suc k →
    length (sizes_text a b c) ≤ suc i + suc j + suc k + 3
line_short i j k a b c ha hb hc =
    omega (arith, sizes_length 0 a b c, decimals_fit 20 i a ha, decimals_fit 20 j b hb, decimals_fit 20 k c hc)

module _ {m n nonzeros : ℕ} {list parts : List ℕ} (split : Fine m n nonzeros list parts) where
  entry_short : (t : ℕ) → t < nonzeros → length (entry_text list parts t) ≤ 10
  unfolding entry_text
  entry_short t l =
      line_short 2 2 0 (row_in list t + 1) (column_in list t + 1) (get_or parts t 0 + 1)
      (omega (arith, split.rows, split.row-in t l))
      (omega (arith, split.columns, split.column-in t l))
      (omega (arith, split.part_in t l))

  size_line_short : length (sizes_text m n nonzeros) ≤ 13
  size_line_short = line_short 2 2 3 m n nonzeros (omega (arith, split.rows)) (omega (arith, split.columns)) (omega (arith, split.few))

  entries-short : (t : ℕ) → t ≤ nonzeros → length (entries_text list parts t) ≤ 10 * t
  entries-short zero b = omega (arith, ap length (entries_none list parts))
  entries-short (suc t) b = omega (arith, entries-length list parts t, entry_short t b, entries-short t (omega arith))

  pub text-short : (f : Figures) → length (text_of m n nonzeros list parts f) ≤ written_most
  unfolding text_of body_text
  text-short f =
      let entries = entries_text list parts nonzeros in
      omega
      (arith, length-append (head_text f) (sizes_text m n nonzeros ++ entries), length-append (sizes_text m n nonzeros) entries, head_short f, size_line_short, entries-short nonzeros (omega arith), split.few)

  -- within the limit of a text
  pub text_fits : (f : Figures) → length (text_of m n nonzeros list parts f) ≤ text_limit
  text_fits f = omega (arith, text-short f)
