-- The number of nonzeros that the entries of a text stand for.
-- Assumes nothing.
use mathlib.Core.Bool.{true, false}
use mathlib.Core.List.{List}
use mathlib.Core.Path.{◌≡◌, sym, ◌∙◌, ap}
use Prim.Native.Nat.{ℕ, ◌+◌, ◌-◌, ◌*◌, ◌<◌}
use native.Mathlib.Omega.{arith}
use lib.Dec.{eqb}
use lib.ListN.{length}
use borrow.Author.Tests.{eqb-true, eq-eqb}
use Rattle.counting.specs.Tests.{◌and◌}
use Rattle.counting.specs.Sums.{count}
use Rattle.counting.proofs.Joined.{by_test, both_ways, and_left, and_all, and_fails_left}
use Rattle.counting.proofs.Counted.{count_eq}
use Rattle.model.specs.Limits.{line_limit}
use Rattle.texts.specs.Header.{header_of}
use Rattle.texts.specs.Entries.{cell_of}
use Rattle.texts.proofs.Cells.{mirror_symmetric, mirror_general}
use Rattle.readback.specs.TextSays.{is_entry, entry_below, on_diagonal, InForm}
use Rattle.readback.proofs.LinesBelow.{entries_all}
use Rattle.readback.proofs.Mirror.{cell_below, mirror_below}
use Rattle.readback.proofs.AllNoted.{is_alone, AllNoted}

module _ {text cells : List ℕ} (all : AllNoted text cells) where
  -- of a general text each stands for one
  pub general_size : (header_of text).symmetric ≡ false → all.size ≡ (header_of text).entries
  general_size s =
      let same =
      count_eq
      (is_alone text)
      (is_entry text)
      all.lines
      (λ k l. and_all (is_entry text k) _ (eq-eqb (mirror_below text k) (cell_below text k) (mirror_general (header_of text) (entry_below text k) s))) in
      omega (arith, same, all.sized, all.number)

  -- of a symmetric text those on the diagonal do
  on-diagonal :
      (k : ℕ) → (header_of text).symmetric ≡ true → InForm text k →
      eqb (mirror_below text k) (cell_below text k) ≡ eqb (entry_below text k).first (entry_below text k).second
  unfolding cell_of
  on-diagonal k s f =
      let i = (entry_below text k).first in
      let j = (entry_below text k).second in
      let i-from = f.row_from in
      let j-from = f.column_from in
      let other : mirror_below text k ≡ line_limit * (j - 1) + (i - 1) = mirror_symmetric (header_of text) (entry_below text k) s in
      both_ways
      (eqb (mirror_below text k) (cell_below text k))
      (eqb i j)
      (λ e. eq-eqb i j (omega (arith, eqb-true (mirror_below text k) (cell_below text k) e)))
      (λ e. eq-eqb (mirror_below text k) (cell_below text k) (omega (arith, eqb-true i j e)))

  alone_diagonal : (k : ℕ) → (header_of text).symmetric ≡ true → k < all.lines → is_alone text k ≡ on_diagonal text k
  unfolding on_diagonal
  alone_diagonal k s l =
      by_test
      (is_entry text k)
      (λ e. ap (λ b. is_entry text k and b) (on-diagonal k s (all.noted_all.in_form k l e)))
      (λ e. and_fails_left _ e ∙ sym (and_fails_left _ e))

  pub symmetric_size : (header_of text).symmetric ≡ true → all.size + count (on_diagonal text) (length text) ≡ 2 * (header_of text).entries
  unfolding on_diagonal
  symmetric_size s =
      let same = count_eq (is_alone text) (on_diagonal text) all.lines (λ k l. alone_diagonal k s l) in
      let among = entries_all text all.lines all.over (on_diagonal text) (λ k e. and_left (is_entry text k) _ e) in
      omega (arith, same, among, all.sized)
