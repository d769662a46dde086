-- Of any text that is read, the bytes past the Nth entry of list and parts stay, and all of the parts where the text has none.
-- Assumes nothing.
use Rattle.std.specs.Prelude.{Ok, Err}
use mathlib.Core.Bool.{Bool, true, false}
use mathlib.Core.List.{List}
use mathlib.Core.Path.{◌≡◌, refl, sym, ◌∙◌, ap}
use Prim.Native.Nat.{ℕ, ◌*◌, ◌≤◌}
use native.Mathlib.Omega.{arith}
use lib.ListN.{length, get_or}
use Rattle.model.specs.Refusal.{Verdict}
use Rattle.model.specs.Limits.{line_limit}
use Rattle.model.specs.Pattern.{entry_bytes}
use Rattle.texts.specs.Reading.{read_as}
use Rattle.texts.specs.Header.{header_of}
use Rattle.texts.specs.Reading.{output_after, parts_given, read_verdict, cells_of, read_call, read_list, read_parts}
use Rattle.texts.proofs.Answers.{parts-other}
use Rattle.readback.proofs.Given.{listed-length, listed-rest, parted-length, parted-rest}
use Rattle.readback.proofs.AnyText.{entered, list-is, parts_are, answered}

-- an output that is what was there
output_same : (v : Verdict) (new old : List ℕ) → new ≡ old → output_after v new old ≡ old
unfolding output_after
output_same (Ok _) new old e = e
output_same (Err refusal) new old e = refl

-- a reading of any text, with its answer
module _ (text list parts : List ℕ) (m n nonzeros : ℕ) (integer : Bool) (e : read_call text list parts ≡ read_as m n nonzeros integer) where
  pub list-stays :
      (length (read_list text list parts) ≡ length list)
      × ((i : ℕ) → entry_bytes * nonzeros ≤ i → get_or (read_list text list parts) i 0 ≡ get_or list i 0)
  list-stays =
      let a = answered text list parts e in
      let table = cells_of text in
      let top = line_limit * (header_of text).m in
      let same = list-is text list parts a.accepted in
      let total = (entered text list parts a.accepted).total in (
        ap length (sym same) ∙ listed-length table list top,
        λ i l. ap (λ x. get_or x i 0) (sym same) ∙ listed-rest table list top i (omega (arith, a.nonzeros_are)),
      )

  pub parts_stay :
      integer ≡ true →
      (length (read_parts text list parts) ≡ length parts)
      × ((i : ℕ) → nonzeros ≤ i → get_or (read_parts text list parts) i 0 ≡ get_or parts i 0)
  parts_stay given =
      let a = answered text list parts e in
      let table = cells_of text in
      let top = line_limit * (header_of text).m in
      let same = parts_are text list parts a.accepted (a.integer_is ∙ given) in
      let total = (entered text list parts a.accepted).total in (
        ap length (sym same) ∙ parted-length table parts top,
        λ i l. ap (λ x. get_or x i 0) (sym same) ∙ parted-rest table parts top i (omega (arith, a.nonzeros_are)),
      )

  -- without parts in the text
  pub other_parts_stay : integer ≡ false → read_parts text list parts ≡ parts
  unfolding read_parts parts_given
  other_parts_stay none =
      output_same
      (read_verdict text list parts)
      _
      parts
      (sym (parts-other (header_of text) (cells_of text) parts ((answered text list parts e).integer_is ∙ none)))
