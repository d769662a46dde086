-- All that is kept of a marking, once a line has got a mark or lost it.
-- Assumes nothing.
use mathlib.Core.Path.{◌≡◌, refl, sym, ◌∙◌, ap}
use mathlib.Core.List.{List}
use Prim.Native.Nat.{ℕ, ◌+◌, ◌-◌, ◌≤◌, ◌<◌}
use native.Mathlib.Omega.{arith}
use borrow.Author.Tests.{eqb-true, eqb-false}
use lib.Dec.{eqb}
use lib.ListN.{length, get_or, set, length-set}
use lib.Seq.{get_or-set_same, get_or-set_other}
use Rattle.counting.specs.Tests.{bit}
use Rattle.counting.proofs.Joined.{by_test, or_eq}
use Rattle.counting.proofs.Summed.{sum_eq}
use Rattle.counting.proofs.Counted.{count_eq}
use Rattle.model.specs.declared.Mark.TheVariants.{Cut}
use Rattle.model.specs.Limits.{line_room}
use Rattle.model.specs.Pattern.{Pattern, Inside, lines, row_line, column_line}
use Rattle.model.specs.Split.{part_number}
use Rattle.model.specs.Marking.{Marking, mark_number, unmarked, takes, taken}
use Rattle.crossing.specs.Crossing.{Laid}
use Rattle.crossing.proofs.Over.{row_inside, column_inside}
use Rattle.keeping.specs.Kept.{crossing_open, none, marking_with, Stage, Holds, Placeable}
use Rattle.keeping.proofs.Marked.{with_same, with_other, open_most}
use Rattle.keeping.proofs.MarkedTaken.{part_below, cut_lines}
use Rattle.keeping.proofs.MarkedLoads.{gain, load_of, load_part, load_cut, by_mark, load_gained, load_kept, load_most}
use Rattle.keeping.proofs.Stages.{stage_eq}

-- what is kept of a marking is kept of each with the same marks on the lines of the pattern
pub holds_eq :
    {P : Pattern} {μ : Marking} {marks by left kinds tally sums loads : List ℕ} →
    Inside P → (ν : Marking) → ((z : ℕ) → z < lines P → μ z ≡ ν z) →
    Holds P μ marks by left kinds tally sums loads → Holds P ν marks by left kinds tally sums loads
unfolding taken takes
holds_eq {P} {μ} inside ν same holds =
    record {
      marks_long = holds.marks_long;
      marks_are = λ l b. holds.marks_are l b ∙ same l b;
      stage = stage_eq inside ν same holds.stage;
      loads_long = holds.loads_long;
      taken_is = λ p.
          holds.taken_is p
          ∙ count_eq
          (takes P μ p)
          (takes P ν p)
          P.size
          (λ t b. or_eq
          (ap (λ x. eqb x (part_number p)) (same (row_line P t) (row_inside inside t b)))
          (ap (λ x. eqb x (part_number p)) (same (column_line P t) (column_inside inside t b))));
      cut_is = holds.cut_is
          ∙ cut_lines P μ
          ∙ sum_eq
          (λ z. bit (eqb (μ z) 2))
          (λ z. bit (eqb (ν z) 2))
          (lines P)
          (λ z b. ap (λ x. bit (eqb x 2)) (same z b))
          ∙ sym (cut_lines P ν);
    }

-- the loads that are kept, by mark
pub load_is :
    {P : Pattern} {μ : Marking} {marks by left kinds tally sums loads : List ℕ} →
    Holds P μ marks by left kinds tally sums loads →
    (p : ℕ) → p ≤ mark_number Cut → get_or loads p 0 ≡ load_of P μ p
load_is {P} {μ} {loads = loads} holds =
    by_mark
    (λ p. get_or loads p 0 ≡ load_of P μ p)
    (λ q. holds.taken_is q ∙ sym (load_part P μ q))
    (holds.cut_is ∙ sym (load_cut P μ))

-- a load with a line's nonzeros more fits two bytes
pub load_fits :
    {P : Pattern} {μ : Marking} {starts cross marks by left kinds tally sums loads : List ℕ} →
    Laid P starts cross → Holds P μ marks by left kinds tally sums loads →
    (p l : ℕ) → p ≤ mark_number Cut → get_or loads p 0 + crossing_open P μ l < 65535
load_fits {P} {μ} laid holds p l b =
    omega (
      arith,
      load_is holds p b,
      load_most P μ p b,
      laid.small,
      laid.few,
      open_most laid.inside μ l,
      laid.thin l,
    )

-- the cut or unmarked crossing lines of a line are counted
pub left_open :
    {P : Pattern} {μ : Marking} {p : ℕ} {marks by left kinds tally sums : List ℕ} →
    Stage P μ p none marks by left kinds tally sums → (l : ℕ) → l < lines P → get_or left l 0 ≡ crossing_open P μ l
left_open stage l b = omega (arith, stage.counts.left_is l b)

-- line l has the mark that it got
pub mark_read :
    {P : Pattern} {μ : Marking} {l p : ℕ} {marks by left kinds tally sums loads : List ℕ} → Placeable P μ l p →
    Holds P (marking_with μ l p) marks by left kinds tally sums loads → get_or marks l 0 ≡ p
mark_read {μ = μ} {l = l} {p = p} place holds = holds.marks_are l place.line ∙ with_same μ l p l refl

-- a place of a list, after a store that is right at its own place
stored :
    (xs : List ℕ) (p q v x : ℕ) → p < length xs → (q ≡ p → v ≡ x) → ((q ≡ p → ⊥) → get_or xs q 0 ≡ x) →
    get_or (set xs p v) q 0 ≡ x
stored xs p q v x b own other =
    by_test
    (eqb q p)
    (λ e. let d : q ≡ p = eqb-true q p e in
    ap (λ k. get_or (set xs p v) k 0) d ∙ get_or-set_same xs p v 0 b ∙ own d)
    (λ e. let n = eqb-false q p e in get_or-set_other xs p q v 0 n ∙ other n)

-- all that is kept, after the stores of a mark and of a load
holds_stored :
    {P : Pattern} {α β : Marking} {l m p v : ℕ} {marks by by' left left' kinds kinds' tally tally' sums sums' loads : List ℕ} →
    l < lines P → lines P ≤ line_room → β l ≡ m → ((z : ℕ) → (z ≡ l → ⊥) → α z ≡ β z) →
    p ≤ mark_number Cut → v ≡ load_of P β p →
    ((q : ℕ) → q ≤ mark_number Cut → (q ≡ p → ⊥) → load_of P α q ≡ load_of P β q) →
    Holds P α marks by left kinds tally sums loads →
    Stage P β 0 none (set marks l m) by' left' kinds' tally' sums' →
    Holds P β (set marks l m) by' left' kinds' tally' sums' (set loads p v)
holds_stored {P} {α} {β} {l} {m} {p} {v} {marks = marks} {loads = loads} line few own other mark gets keeps holds stage =
    record {
      marks_long = length-set marks l m ∙ holds.marks_long;
      marks_are = λ z b.
          stored
          marks
          l
          z
          m
          (β z)
          (omega (arith, holds.marks_long))
          (λ e. sym own ∙ ap β (sym e))
          (λ n. holds.marks_are z b ∙ other z n);
      stage = stage;
      loads_long = length-set loads p v ∙ holds.loads_long;
      taken_is = λ q. load (part_number q) (omega (arith, part_below q)) ∙ load_part P β q;
      cut_is = load (mark_number Cut) (omega arith) ∙ load_cut P β;
    }
  where
    load : (q : ℕ) → q ≤ mark_number Cut → get_or (set loads p v) q 0 ≡ load_of P β q
    load q b =
        stored
        loads
        p
        q
        v
        (load_of P β q)
        (omega (arith, holds.loads_long))
        (λ d. gets ∙ ap (load_of P β) (sym d))
        (λ n. load_is holds q b ∙ keeps q b n)

module _ {P : Pattern} {μ : Marking} {l p : ℕ} (few : lines P ≤ line_room) (inside : Inside P) (place : Placeable P μ l p) where
  -- line l has got mark p
  pub holds_pushed :
      {marks by by' left left' kinds kinds' tally tally' sums sums' loads : List ℕ} →
      Holds P μ marks by left kinds tally sums loads →
      (q v : ℕ) → q ≡ p → v ≡ get_or loads q 0 + gain P μ l p →
      Stage P (marking_with μ l p) 0 none (set marks l p) by' left' kinds' tally' sums' →
      Holds P (marking_with μ l p) (set marks l p) by' left' kinds' tally' sums' (set loads q v)
  holds_pushed {loads = loads} holds q v d e stage =
      rw
      d
      (holds_stored
      place.line
      few
      (with_same μ l p l refl)
      (λ z n. sym (with_other μ l p z n))
      place.mark
      (omega (arith, ap (λ k. get_or loads k 0) d, load_is holds p place.mark, load_gained inside place))
      (λ k b n. sym (load_kept place k b n))
      holds
      stage)

  -- line l has lost mark p
  pub holds_popped :
      {marks by by' left left' kinds kinds' tally tally' sums sums' loads : List ℕ} →
      Holds P (marking_with μ l p) marks by left kinds tally sums loads →
      (v : ℕ) → v ≡ get_or loads p 0 - gain P μ l p →
      Stage P μ 0 none (set marks l unmarked) by' left' kinds' tally' sums' →
      Holds P μ (set marks l unmarked) by' left' kinds' tally' sums' (set loads p v)
  holds_popped holds v e =
      holds_stored
      place.line
      few
      place.free
      (λ z n. with_other μ l p z n)
      place.mark
      (omega (arith, load_is holds p place.mark, load_gained inside place))
      (λ q b n. load_kept place q b n)
      holds

  -- the load of mark p can be less by the gain
  pub gain-within :
      {marks by left kinds tally sums loads : List ℕ} →
      Holds P (marking_with μ l p) marks by left kinds tally sums loads → gain P μ l p ≤ get_or loads p 0
  gain-within holds = omega (arith, load_is holds p place.mark, load_gained inside place)
