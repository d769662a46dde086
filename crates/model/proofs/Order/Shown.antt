-- The shown split of a valid marking meets both caps, and cuts no line but those that a full marking marks cut.
-- Assumes nothing.
use mathlib.Core.Bool.{Bool, true, false, not}
use mathlib.Core.List.{List}
use mathlib.Core.Path.{◌≡◌, refl, sym, ◌∙◌, ap}
use mathlib.Core.Logic.{⊎_elim}
use Prim.Native.Nat.{ℕ, zero, suc, ◌+◌, ◌≤◌, ◌<◌}
use native.Mathlib.Omega.{arith}
use lib.Dec.{eqb, ltb}
use lib.ListN.{length}
use borrow.Author.Tests.{ltb-true, ltb-false, lt-ltb}
use Rattle.counting.specs.Tests.{◌and◌, ◌or◌, pick, bit}
use Rattle.counting.specs.Sums.{count}
use Rattle.counting.proofs.Joined.{clash, by_test, passes, fails, and_left, and_right, pick_true, pick-false, bit-true, bit-false}
use Rattle.counting.proofs.Summed.{sum-suc, sum-none, sum_add, sum_eq}
use Rattle.counting.proofs.Counted.{count_mono, count_all}
use Rattle.model.specs.declared.Part.{Part}
use Rattle.model.specs.declared.Part.TheVariants.{Zero, One}
use Rattle.model.specs.declared.Mark.TheVariants.{To, Cut}
use Rattle.model.specs.declared.Caps.{Caps}
use Rattle.model.specs.Pattern.{Pattern, lines, line_total}
use Rattle.model.specs.Split.{Split, Meets, same_part, holds, is_cut, volume, load}
use Rattle.model.specs.Marking.{Marking, mark_number, marking, takes, taken, valid}
use Rattle.model.specs.Bound.{untaken}
use Rattle.model.specs.Walk.{cuts, filled, shown_split}
use Rattle.model.specs.State.{are_marks}
use Rattle.model.proofs.Split.Parts.{two_parts}
use Rattle.model.proofs.Split.Volume.{holds_elim, held, volume-is-cuts}
use Rattle.model.proofs.Bound.Validity.{Valid, valid_is}
use Rattle.model.proofs.Bound.Extended.{Marks, marked_takes, part_mark}
use Rattle.model.proofs.Order.Marks.{cut_line, full_marks, cut_lines_most}

one_part : (q : Part) → bit (same_part Zero q) + bit (same_part One q) ≡ 1
unfolding bit
one_part Zero = refl
one_part One = refl

-- the loads of a split are all its nonzeros
pub loads_all : (P : Pattern) (σ : Split) → load P σ Zero + load P σ One ≡ P.size
unfolding load
loads_all P σ =
    omega (
      arith,
      sum_add (λ t. bit (same_part Zero (σ t))) (λ t. bit (same_part One (σ t))) P.size,
      sum_eq
          (λ t. bit (same_part Zero (σ t)) + bit (same_part One (σ t)))
          (λ t. bit true)
          P.size
          (λ t b. omega (arith, one_part (σ t), bit-true true refl)),
      count_all (λ t. true) P.size (λ t b. refl),
    )

-- a nonzero is taken by one part or untaken
one_kind :
    (zero one : Bool) → (zero ≡ true → one ≡ false) → bit zero + bit one + bit (not (zero or one)) ≡ 1
unfolding bit ◌or◌
one_kind true true h = clash refl (h refl)
one_kind true false h = refl
one_kind false true h = refl
one_kind false false h = refl

-- a test beside one that passes
with_room : (a : Bool) {b : Bool} → b ≡ true → a and b ≡ a
unfolding ◌and◌
with_room true h = h
with_room false h = refl

-- where the shown split puts a nonzero, by whether 0 and 1 take it and part 0 has room
shown-zero :
    (zero one room : Bool) → (zero ≡ true → one ≡ false) →
    bit (same_part Zero (pick zero Zero (pick one One (pick room Zero One)))) ≡ bit zero + bit (not (zero or one) and room)
unfolding bit pick ◌or◌ ◌and◌
shown-zero true true room h = clash refl (h refl)
shown-zero true false room h = refl
shown-zero false true room h = refl
shown-zero false false true h = refl
shown-zero false false false h = refl

module _ (P : Pattern) (caps : Caps) (ν : Marking) (f : Valid P caps ν) where
  -- the nonzeros of part 0 among the first t: those taken by 0, and those filled in
  zeros_are :
      (t : ℕ) → t ≤ P.size →
      count (λ s. same_part Zero (shown_split P caps ν s)) t ≡ count (takes P ν Zero) t + filled P caps ν t
  unfolding filled shown_split untaken
  zeros_are zero b =
      omega (arith, sum-none (λ s. bit (same_part Zero (shown_split P caps ν s))), sum-none (λ s. bit (takes P ν Zero s)))
  zeros_are (suc t) b =
      omega (
        arith,
        zeros_are t (omega arith),
        sum-suc (λ s. bit (same_part Zero (shown_split P caps ν s))) t,
        sum-suc (λ s. bit (takes P ν Zero s)) t,
        shown-zero
            (takes P ν Zero t)
            (takes P ν One t)
            (ltb (taken P ν Zero + filled P caps ν t) caps.cap0)
            (f.once t (omega arith)),
      )

  -- part 0 is filled no further than cap 0
  filled_most : (t : ℕ) → taken P ν Zero + filled P caps ν t ≤ caps.cap0
  unfolding filled taken
  filled_most zero = omega (arith, f.fits Zero)
  filled_most (suc t) =
      by_test
      (untaken P ν t and ltb (taken P ν Zero + filled P caps ν t) caps.cap0)
      (λ e. omega (
        arith,
        bit-true (untaken P ν t and ltb (taken P ν Zero + filled P caps ν t) caps.cap0) e,
        ltb-true
            (taken P ν Zero + filled P caps ν t)
            caps.cap0
            (and_right (untaken P ν t) (ltb (taken P ν Zero + filled P caps ν t) caps.cap0) e),
      ))
      (λ e. omega (
        arith,
        filled_most t,
        bit-false (untaken P ν t and ltb (taken P ν Zero + filled P caps ν t) caps.cap0) e,
      ))

  -- while part 0 has room, every untaken nonzero is filled in
  filled_all : (t : ℕ) → taken P ν Zero + filled P caps ν t < caps.cap0 → filled P caps ν t ≡ count (untaken P ν) t
  unfolding filled ◌and◌
  filled_all zero h = sym (sum-none (λ s. bit (untaken P ν s)))
  filled_all (suc t) h =
      let less : taken P ν Zero + filled P caps ν t < caps.cap0 = omega arith in
      omega (
        arith,
        filled_all t less,
        sum-suc (λ s. bit (untaken P ν s)) t,
        ap bit (with_room (untaken P ν t) (lt-ltb (taken P ν Zero + filled P caps ν t) caps.cap0 less)),
      )

  -- every nonzero is taken by 0, by 1, or by none
  kinds_all : taken P ν Zero + taken P ν One + count (untaken P ν) P.size ≡ P.size
  unfolding taken untaken
  kinds_all =
      omega (
        arith,
        sum_add (λ t. bit (takes P ν Zero t)) (λ t. bit (takes P ν One t)) P.size,
        sum_add (λ t. bit (takes P ν Zero t) + bit (takes P ν One t)) (λ t. bit (untaken P ν t)) P.size,
        sum_eq
            (λ t. bit (takes P ν Zero t) + bit (takes P ν One t) + bit (untaken P ν t))
            (λ t. bit true)
            P.size
            (λ t b. omega (arith, one_kind (takes P ν Zero t) (takes P ν One t) (f.once t b), bit-true true refl)),
        count_all (λ t. true) P.size (λ t b. refl),
      )

  -- the shown split meets both caps, where any split does
  pub shown_meets : P.size ≤ caps.cap0 + caps.cap1 → Meets P caps (shown_split P caps ν)
  unfolding load taken
  shown_meets enough =
      let zeros = zeros_are P.size (omega arith) in
      let most = filled_most P.size in
      let all = loads_all P (shown_split P caps ν) in
      record {
        zero_fits = omega arith;
        one_fits = by_test
            (ltb (taken P ν Zero + filled P caps ν P.size) caps.cap0)
            (λ e. omega (
              arith,
              kinds_all,
              f.fits One,
              filled_all P.size (ltb-true (taken P ν Zero + filled P caps ν P.size) caps.cap0 e),
            ))
            (λ e. omega (arith, ltb-false (taken P ν Zero + filled P caps ν P.size) caps.cap0 e));
      }

  -- a taken nonzero goes to its part
  pub shown-taken : (p : Part) (t : ℕ) → t < P.size → takes P ν p t ≡ true → shown_split P caps ν t ≡ p
  unfolding shown_split
  shown-taken Zero t b h = pick_true Zero (pick (takes P ν One t) One (pick (ltb (taken P ν Zero + filled P caps ν t) caps.cap0) Zero One)) h
  shown-taken One t b h =
      pick-false
      Zero
      (pick (takes P ν One t) One (pick (ltb (taken P ν Zero + filled P caps ν t) caps.cap0) Zero One))
      (fails (takes P ν Zero t) (λ e. clash h (f.once t b e)))
      ∙ pick_true One (pick (ltb (taken P ν Zero + filled P caps ν t) caps.cap0) Zero One) h

  -- a line with a part's mark has no nonzero in the other part
  shown-whole :
      (p q : Part) (l : ℕ) → ν l ≡ mark_number (To p) → holds P (shown_split P caps ν) q l ≡ true → p ≡ q
  shown-whole p q l e h =
      let w = holds_elim P (shown_split P caps ν) q l h in
      sym (shown-taken p w.0 w.1 (marked_takes P ν p l w.0 w.2 e)) ∙ w.3

  -- a line that the shown split cuts has mark cut
  pub shown_cut :
      Marks P ν → (l : ℕ) → l < lines P → is_cut P (shown_split P caps ν) l ≡ true → cut_line ν l ≡ true
  unfolding is_cut cut_line
  shown_cut m l b h =
      let zero = and_left (holds P (shown_split P caps ν) Zero l) (holds P (shown_split P caps ν) One l) h in
      let one = and_right (holds P (shown_split P caps ν) Zero l) (holds P (shown_split P caps ν) One l) h in
      passes
      (eqb (ν l) (mark_number Cut))
      (λ uncut. ⊎_elim
      (λ e. two_parts (shown-whole Zero One l e one))
      (λ e. two_parts (sym (shown-whole One Zero l e zero)))
      (part_mark (ν l) (m.marked l b (held P (shown_split P caps ν) Zero l zero)) uncut))

-- the shown split of a full valid marking has at most its cut lines as its volume
pub shown_volume :
    (P : Pattern) (caps : Caps) (τ : List ℕ) →
    length τ ≡ line_total P → are_marks τ ≡ true → valid P caps (marking P τ) ≡ true →
    volume P (shown_split P caps (marking P τ)) ≤ cuts τ
shown_volume P caps τ long marks fits =
    omega (
      arith,
      volume-is-cuts P (shown_split P caps (marking P τ)),
      count_mono
          (is_cut P (shown_split P caps (marking P τ)))
          (cut_line (marking P τ))
          (lines P)
          (shown_cut P caps (marking P τ) (valid_is P caps (marking P τ) fits) (full_marks P τ long marks)),
      cut_lines_most P τ,
    )
