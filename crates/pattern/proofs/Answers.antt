-- Laws of the checks of parts, and of the answers on volume and load.
-- Assumes nothing.
use mathlib.Core.List.{List}
use mathlib.Core.Path.{◌≡◌, refl, sym, ◌∙◌}
use Prim.Native.Nat.{ℕ, ◌+◌, ◌≤◌, ◌<◌}
use native.Mathlib.Omega.{arith}
use lib.ListN.{length, get_or}
use borrow.Author.Tests.{lt-ltb, le-ltb}
use Rattle.model.specs.Limits.{line_room}
use Rattle.model.specs.declared.Part.{Part}
use Rattle.model.specs.declared.Word.{Word}
use Rattle.model.specs.declared.Word.TheVariants.{BadPart, ShortBuffer}
use Rattle.model.specs.Refusal.{accepted, refused, each_verdict}
use Rattle.model.specs.Pattern.{pattern_of}
use Rattle.model.specs.Split.{load}
use Rattle.model.specs.Calls.{sizes_verdict, list_verdict}
use Rattle.pattern.specs.Splits.{split_of, load_of}
use Rattle.pattern.specs.Measures.{part_verdict, parts_verdict, measure_verdict}
use Rattle.model.proofs.Theorems.Checks.{refuse_so, refuse_no, then_accepted, then_refused, then-first, rows_range, columns_range}
use Rattle.pattern.proofs.Lines.{load_is}

module _ (parts : List ℕ) (t byte : ℕ) (e : byte ≡ get_or parts t 0) where
  -- a part byte above 1 is refused, with its nonzero's number
  pub part_bad : 1 < byte → part_verdict parts t ≡ refused BadPart t
  unfolding part_verdict
  part_bad h = refuse_so BadPart t (lt-ltb 1 (get_or parts t 0) (omega arith))

  pub part_fine : byte ≤ 1 → part_verdict parts t ≡ accepted
  unfolding part_verdict
  part_fine h = refuse_no BadPart t (le-ltb 1 (get_or parts t 0) (omega arith))

-- parts that are too few, or enough
pub parts-short : (nonzeros : ℕ) (parts : List ℕ) → length parts < nonzeros → parts_verdict nonzeros parts ≡ refused ShortBuffer 0
unfolding parts_verdict
parts-short nonzeros parts h = then_refused _ (refuse_so ShortBuffer 0 (lt-ltb (length parts) nonzeros h))

pub parts-each :
    (nonzeros : ℕ) (parts : List ℕ) → nonzeros ≤ length parts →
    parts_verdict nonzeros parts ≡ each_verdict (part_verdict parts) nonzeros
unfolding parts_verdict
parts-each nonzeros parts h = then_accepted _ (refuse_no ShortBuffer 0 (le-ltb (length parts) nonzeros h))

module _ (m n nonzeros : ℕ) (list parts : List ℕ) where
  pub measure_list :
      (word : Word) (place : ℕ) → list_verdict m n nonzeros list ≡ refused word place →
      measure_verdict m n nonzeros list parts ≡ refused word place
  unfolding measure_verdict
  measure_list word place h = then_refused _ h

  pub measure_parts :
      list_verdict m n nonzeros list ≡ accepted →
      measure_verdict m n nonzeros list parts ≡ parts_verdict nonzeros parts
  unfolding measure_verdict
  measure_parts h = then_accepted _ h

  -- where nothing is refused, the sizes are accepted
  pub measure_sizes : measure_verdict m n nonzeros list parts ≡ accepted → sizes_verdict m n nonzeros ≡ accepted
  unfolding measure_verdict list_verdict
  measure_sizes h = then-first _ _ (then-first _ _ (then-first _ _ h))

  -- and there is room for every line
  pub lines_few : measure_verdict m n nonzeros list parts ≡ accepted → m + n ≤ line_room
  lines_few h =
      let sizes = measure_sizes h in
      omega (arith, (rows_range m n nonzeros sizes).1, (columns_range m n nonzeros sizes).1)

  -- the load, by number of nonzeros alone
  pub load_value :
      (p : Part) {value : ℕ} → value ≡ load_of parts nonzeros p → value ≡ load (pattern_of m n nonzeros list) (split_of parts) p
  unfolding pattern_of
  load_value p e = e ∙ sym (load_is (pattern_of m n nonzeros list) parts nonzeros p refl)
