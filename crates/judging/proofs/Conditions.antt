-- The kinds that are kept are those of the lines' conditions: which lines lean, which are torn, and the conflicts.
-- Assumes nothing.
use mathlib.Core.Bool.{Bool, true, false}
use mathlib.Core.List.{List}
use mathlib.Core.Path.{◌≡◌, refl, sym, ◌∙◌, ap}
use Prim.Native.Nat.{ℕ, ◌+◌, ◌*◌, ◌≤◌, ◌<◌}
use native.Mathlib.Omega.{arith}
use lib.Dec.{eqb, ltb}
use lib.ListN.{get_or}
use Rattle.counting.specs.Tests.{bit, pick}
use Rattle.counting.proofs.Joined.{and_eq, or_eq}
use Rattle.counting.proofs.Summed.{sum_eq}
use Rattle.counting.proofs.Counted.{count_eq}
use Rattle.model.specs.declared.Part.{Part}
use Rattle.model.specs.declared.Part.TheVariants.{Zero, One}
use Rattle.model.specs.declared.Condition.{Condition}
use Rattle.model.specs.declared.Condition.TheVariants.{Marked, Torn, Leaning, Untouched}
use Rattle.model.specs.Limits.{line_room}
use Rattle.model.specs.Pattern.{Pattern, Inside, lines, row_line, column_line}
use Rattle.model.specs.Split.{part_number}
use Rattle.model.specs.Marking.{Marking, touched, condition_for, condition}
use Rattle.model.specs.Bound.{says_torn, says_leaning, leans, L2, conflict, untaken_on}
use Rattle.model.specs.Matching.{conflicts}
use Rattle.model.proofs.Bound.Conditions.{leaning_line}
use Rattle.model.proofs.Split.Lines.{row_line_in, column_line_in}
use Rattle.weighing.proofs.Conditions.{condition_open}
use Rattle.bound.specs.Evaluated.{LeansAt}
use Rattle.keeping.specs.Kinds.{cells, kind_number, kind_of, pairs, apart, torn_of}
use Rattle.keeping.specs.Tied.{torn_place, conflicts_place}
use Rattle.keeping.specs.Kept.{Holds, crossing_with}
use Rattle.keeping.proofs.Holding.{left_open}
use Rattle.judging.proofs.Crossed.{touched-by, left-untaken}

-- the kind of a condition says whether it leans to a part
kind_leans : (p : Part) (c : Condition) → eqb (kind_number c) (part_number p) ≡ says_leaning p c
unfolding says_leaning
kind_leans Zero (Marked mark) = refl
kind_leans Zero Torn = refl
kind_leans Zero (Leaning Zero) = refl
kind_leans Zero (Leaning One) = refl
kind_leans Zero Untouched = refl
kind_leans One (Marked mark) = refl
kind_leans One Torn = refl
kind_leans One (Leaning Zero) = refl
kind_leans One (Leaning One) = refl
kind_leans One Untouched = refl

-- and whether it is torn
kind_torn : (c : Condition) → eqb (kind_number c) 3 ≡ says_torn c
kind_torn (Marked mark) = refl
kind_torn Torn = refl
kind_torn (Leaning Zero) = refl
kind_torn (Leaning One) = refl
kind_torn Untouched = refl

none_more : (b : Bool) (x : ℕ) → x + pick b 0 0 ≡ x
unfolding pick
none_more true x = omega arith
none_more false x = omega arith

module _ {P : Pattern} {μ : Marking} {marks by left kinds tally sums loads : List ℕ} (h : Holds P μ marks by left kinds tally sums loads) where
  -- the crossing lines that are marked with a part
  pub by_part : (q l : ℕ) → q < 2 → l < lines P → get_or by (line_room * q + l) 0 ≡ crossing_with P μ q l
  by_part q l a b = h.stage.counts.by_is q l a b ∙ none_more (eqb q 0) (crossing_with P μ q l)

  -- the kind of a line is that of its condition
  pub kind_is : (l : ℕ) → l < lines P → get_or kinds l 0 ≡ kind_number (condition P μ l)
  unfolding kind_of condition
  kind_is l b =
      h.stage.agree.kind_is l b
      ∙ ap (λ (x : ℕ). kind_number (condition_for x (ltb 0 (get_or by l 0)) (ltb 0 (get_or by (line_room + l) 0)))) (h.marks_are l b)
      ∙ ap kind_number (condition_open (μ l) (ltb 0 (get_or by l 0)) (ltb 0 (get_or by (line_room + l) 0)) (touched P μ Zero l) (touched P μ One l) zero one)
    where
      zero : 2 ≤ μ l → ltb 0 (get_or by l 0) ≡ touched P μ Zero l
      zero w =
          let e : l ≡ line_room * 0 + l = omega arith in
          ap (λ (at : ℕ). ltb 0 (get_or by at 0)) e ∙ ap (ltb 0) (by_part 0 l (omega arith) b) ∙ sym (touched-by P μ Zero l w)

      one : 2 ≤ μ l → ltb 0 (get_or by (line_room + l) 0) ≡ touched P μ One l
      one w =
          let e : line_room + l ≡ line_room * 1 + l = omega arith in
          ap (λ (at : ℕ). ltb 0 (get_or by at 0)) e ∙ ap (ltb 0) (by_part 1 l (omega arith) b) ∙ sym (touched-by P μ One l w)

  -- the kinds say to which part lines lean
  pub kinds_lean : LeansAt P μ kinds
  unfolding leans
  kinds_lean p l b = ap (λ (x : ℕ). eqb x (part_number p)) (kind_is l b) ∙ kind_leans p (condition P μ l)

  -- the untaken nonzeros of a line that leans
  pub leaning_left_lem : (p : Part) (l : ℕ) → l < lines P → leans P μ p l ≡ true → get_or left l 0 ≡ untaken_on P μ l
  leaning_left_lem p l b e =
      left_open h.stage l b ∙ sym (left-untaken P μ l (omega (arith, (leaning_line P μ p l e).free)))

  -- the torn lines
  pub torn_kept : get_or sums torn_place 0 ≡ L2 P μ
  unfolding torn_of L2
  torn_kept =
      h.stage.tied.torn_is
      ∙ count_eq
      (λ l. eqb (cells kinds l) 3)
      (λ l. says_torn (condition P μ l))
      (lines P)
      (λ l b. ap (λ (x : ℕ). eqb x 3) (kind_is l b) ∙ kind_torn (condition P μ l))

  -- the conflicts
  pub conflicts_kept : Inside P → get_or sums conflicts_place 0 ≡ conflicts P μ
  unfolding pairs apart conflict conflicts
  conflicts_kept i =
      h.stage.tied.conflicts_is
      ∙ sum_eq
      (λ t. apart (cells kinds (row_line P t)) (cells kinds (column_line P t)))
      (λ t. bit (conflict P μ t))
      P.size
      (λ t b. let r = row_line_in P t i b in
      let c = column_line_in P t i b in
      ap bit (or_eq
      (and_eq (kinds_lean Zero (row_line P t) r) (kinds_lean One (column_line P t) c))
      (and_eq (kinds_lean One (row_line P t) r) (kinds_lean Zero (column_line P t) c))))
