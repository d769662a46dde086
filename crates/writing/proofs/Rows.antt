-- A written line of three numbers, the size line or an entry, is read back whole.
-- Assumes nothing.
use mathlib.Core.Bool.{true, false}
use Rattle.std.specs.Prelude.{Ok}
use mathlib.Core.List.{List, [], ◌∷◌, ◌++◌}
use mathlib.Core.Path.{◌≡◌, ◌∙◌, ap}
use Prim.Native.Nat.{ℕ, ◌+◌, ◌^◌, ◌<◌}
use native.Mathlib.Omega.{arith}
use lib.ListN.{length}
use borrow.Author.Tests.{ne_eqb}
use Rattle.scanning.specs.declared.Field.TheVariants.{Integer}
use Rattle.scanning.specs.declared.Stretch.TheVariants.{Blanks}
use Rattle.scanning.specs.Lines.{stretch_end, line_end, line_next, empty_line}
use Rattle.scanning.specs.Words.{numbers_at}
use Rattle.writing.specs.Written.{decimals, number_text, sizes_text}
use Rattle.writing.proofs.Held.{Holds, holds-left, holds_as, every, every_append, decimals-every}
use Rattle.writing.proofs.Back.{plain, end_back, next-back, three_body, sizes_body, line_over, body_length, three_back, filled-back}
use Rattle.writing.proofs.Top.{digit_plain, number-plain}

body_plain : (a b c : ℕ) → every plain (three_body a b c) ≡ true
unfolding three_body
body_plain a b c =
    every_append plain (number_text a 32) (number_text b 32 ++ decimals 20 c) (number-plain a)
    (every_append plain (number_text b 32) (decimals 20 c) (number-plain b) (decimals-every plain digit_plain 20 c))

module _
    (text : List ℕ) (at a b c : ℕ) (held : Holds text at (sizes_text a b c))
    (sa : a < 10 ^ 9) (sb : b < 10 ^ 9) (sc : c < 10 ^ 9) (room : line_over at a b c < length text) where
  held_line : Holds text at (three_body a b c ++ (10 ∷ []))
  held_line = holds_as (sizes_body a b c) held

  held_body : Holds text at (three_body a b c)
  held_body = holds-left (three_body a b c) (10 ∷ []) held_line

  pub row_end : line_end text at ≡ line_over at a b c
  row_end =
      end_back text (three_body a b c) at held_line (body_plain a b c) (omega (arith, body_length at a b c))
      ∙ body_length at a b c

  pub row_next : line_next text at ≡ line_over at a b c + 1
  row_next =
      next-back text (three_body a b c) at held_line (body_plain a b c) (omega (arith, body_length at a b c))
      ∙ ap (λ x. x + 1) (body_length at a b c)

  pub row-filled : empty_line text at ≡ false
  unfolding empty_line
  row-filled =
      let same = ap (stretch_end Blanks text at) row_end ∙ filled-back text at a b c held_body sa sb sc in
      ne_eqb (stretch_end Blanks text at (line_end text at)) (line_end text at) (λ e. omega (arith, same, row_end))

  pub row_numbers : numbers_at text at (line_end text at) Integer ≡ Ok (record { first = a; second = b; third = c })
  row_numbers = ap (λ end. numbers_at text at end Integer) row_end ∙ three_back text at a b c held_body sa sb sc
