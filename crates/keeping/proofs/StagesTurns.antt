-- The nonzeros of a line, taken by a part or given back one by one: what each turn of a loop over its crossing lines needs, and the arrays after it.
-- Assumes nothing.
use mathlib.Core.Bool.{false}
use mathlib.Core.Path.{◌≡◌, refl, sym, ◌∙◌, ap}
use mathlib.Core.List.{List}
use Prim.Native.Nat.{ℕ, ◌+◌, ◌-◌, ◌*◌, ◌<◌}
use native.Mathlib.Omega.{arith}
use borrow.Author.Tests.{eq-eqb, eqb-false, lt-ltb}
use lib.Dec.{eqb}
use lib.ListN.{get_or, set}
use lib.Seq.{get_or-set_same}
use Rattle.counting.proofs.Joined.{no_way, pick_true}
use Rattle.model.specs.Limits.{line_room}
use Rattle.model.specs.Pattern.{Pattern, lines}
use Rattle.model.specs.Marking.{Marking, unmarked}
use Rattle.crossing.specs.Crossing.{Laid}
use Rattle.keeping.specs.Kinds.{cells, kind_of}
use Rattle.keeping.specs.Tied.{Tied, Takeable, Givable}
use Rattle.keeping.specs.Kept.{meets, none, Stage}
use Rattle.keeping.proofs.Marked.{crossing_most, open_most, meets_open}
use Rattle.keeping.proofs.Standing.{standing, standing-none, standing_all, Turn, turn_line, turn_few, standing-more, standing_less, standing_both, turn_own, turn_beside}
use Rattle.keeping.proofs.Stages.{stage_more}
use Rattle.keeping.proofs.StagesSettled.{Settled, kind_kept, stage_moved}

module _ {P : Pattern} {starts cross : List ℕ} {l i y : ℕ} (turn : Turn P starts cross l i y) {μ : Marking} {p : ℕ} (part : p < 2) (free : μ l ≡ unmarked) where
  -- one more nonzero of line y can be taken
  pub takeable :
      {marks by left kinds tally sums : List ℕ} →
      Stage P μ p (standing cross (get_or starts l 0) i) marks by left kinds tally sums →
      Takeable by left kinds tally sums y p
  takeable {marks} {by} {left} stage =
      record {
        pattern = P;
        tied = stage.tied;
        few = turn_few turn;
        left_long = stage.counts.left_long;
        line = turn_line turn;
        part = part;
        some = omega (
          arith,
          stage.counts.left_is y (turn_line turn),
          standing_both turn y,
          standing_less turn y,
          turn_own turn,
          meets_open turn.laid.inside μ l y free,
        );
        room = omega (
          arith,
          stage.counts.by_is p y part (turn_line turn),
          pick_true (standing cross (get_or starts l 0) i y) 0 (eq-eqb p p refl),
          crossing_most turn.laid.inside μ p y,
          standing_both turn y,
          meets_open turn.laid.inside μ l y free,
          open_most turn.laid.inside μ y,
          turn.laid.thin y,
        );
      }

  -- one nonzero of line y can be given back
  pub givable :
      {marks by left kinds tally sums : List ℕ} →
      Stage P μ p (standing cross i (get_or starts (l + 1) 0)) marks by left kinds tally sums →
      Givable by left kinds tally sums y p
  givable {marks} {by} {left} stage =
      record {
        pattern = P;
        tied = stage.tied;
        few = turn_few turn;
        left_long = stage.counts.left_long;
        line = turn_line turn;
        part = part;
        room = omega (
          arith,
          stage.counts.left_is y (turn_line turn),
          standing_less turn y,
          turn_own turn,
          open_most turn.laid.inside μ y,
          turn.laid.thin y,
        );
        some = omega (
          arith,
          stage.counts.by_is p y part (turn_line turn),
          pick_true (standing cross i (get_or starts (l + 1) 0) y) 0 (eq-eqb p p refl),
          standing_less turn y,
          turn_own turn,
        );
      }

  -- the count of line y that was stored
  stored_count :
      {c : ℕ → ℕ} {marks by by' left kinds tally sums : List ℕ} {v : ℕ} → Stage P μ p c marks by left kinds tally sums →
      by' ≡ set by (line_room * p + y) v → get_or by' (line_room * p + y) 0 ≡ v
  stored_count {by = by} {v = v} stage e =
      ap (λ (xs : List ℕ). get_or xs (line_room * p + y) 0) e
      ∙ get_or-set_same by (line_room * p + y) v 0 (omega (arith, stage.counts.by_long, turn_line turn, turn_few turn))

  -- line y has its kind already, unless its count becomes 1 as a nonzero is taken,
  pub kind_taken :
      {marks by by' left kinds tally sums : List ℕ} →
      Stage P μ p (standing cross (get_or starts l 0) i) marks by left kinds tally sums →
      by' ≡ set by (line_room * p + y) (get_or by (line_room * p + y) 0 + 1) → eqb (get_or by' (line_room * p + y) 0) 1 ≡ false →
      get_or kinds y 0 ≡ kind_of (get_or marks y 0) (get_or by' y 0) (get_or by' (line_room + y) 0)
  kind_taken {by = by} {by'} stage e f =
      let c : get_or by (line_room * p + y) 0 ≡ 0 → ⊥ = λ d. no_way (omega (arith, stored_count stage e, eqb-false (get_or by' (line_room * p + y) 0) 1 f)) in
      kind_kept
      part
      (turn_line turn)
      stage.counts.by_long
      (turn_few turn)
      stage.agree
      by'
      (get_or by (line_room * p + y) 0 + 1)
      e
      (lt-ltb 0 (get_or by (line_room * p + y) 0 + 1) (omega arith) ∙ sym (lt-ltb 0 (get_or by (line_room * p + y) 0) (omega arith)))

  -- or 0 as one is given back
  pub kind_given :
      {marks by by' left kinds tally sums : List ℕ} →
      Stage P μ p (standing cross i (get_or starts (l + 1) 0)) marks by left kinds tally sums →
      by' ≡ set by (line_room * p + y) (get_or by (line_room * p + y) 0 - 1) → eqb (get_or by' (line_room * p + y) 0) 0 ≡ false →
      get_or kinds y 0 ≡ kind_of (get_or marks y 0) (get_or by' y 0) (get_or by' (line_room + y) 0)
  kind_given {by = by} {by'} stage e f =
      let c : get_or by (line_room * p + y) 0 - 1 ≡ 0 → ⊥ = λ d. eqb-false (get_or by' (line_room * p + y) 0) 0 f (stored_count stage e ∙ d) in
      kind_kept
      part
      (turn_line turn)
      stage.counts.by_long
      (turn_few turn)
      stage.agree
      by'
      (get_or by (line_room * p + y) 0 - 1)
      e
      (lt-ltb 0 (get_or by (line_room * p + y) 0 - 1) (omega arith) ∙ sym (lt-ltb 0 (get_or by (line_room * p + y) 0) (omega arith)))

  -- one more nonzero is taken, and the line is settled
  pub stage_taken :
      {marks by by' left left' kinds kinds' tally tally' sums sums' : List ℕ} →
      Stage P μ p (standing cross (get_or starts l 0) i) marks by left kinds tally sums →
      by' ≡ set by (line_room * p + y) (get_or by (line_room * p + y) 0 + 1) → left' ≡ set left y (get_or left y 0 - 1) →
      Settled marks by' kinds kinds' y → Tied P (cells kinds') (cells left') tally' sums' →
      Stage P μ p (standing cross (get_or starts l 0) (i + 1)) marks by' left' kinds' tally' sums'
  stage_taken {by = by} {left = left} stage e f settled tied =
      stage_moved
      (get_or by (line_room * p + y) 0 + 1)
      (get_or left y 0 - 1)
      (turn_few turn)
      part
      (turn_line turn)
      stage
      e
      f
      settled
      tied
      (standing cross (get_or starts l 0) (i + 1))
      (λ z b n. omega (arith, standing-more turn z, turn_beside turn z n))
      (omega (arith, standing-more turn y, turn_own turn))
      (omega (arith, standing-more turn y, turn_own turn, (takeable stage).some))

  -- one nonzero is given back, and the line is settled
  pub stage_given :
      {marks by by' left left' kinds kinds' tally tally' sums sums' : List ℕ} →
      Stage P μ p (standing cross i (get_or starts (l + 1) 0)) marks by left kinds tally sums →
      by' ≡ set by (line_room * p + y) (get_or by (line_room * p + y) 0 - 1) → left' ≡ set left y (get_or left y 0 + 1) →
      Settled marks by' kinds kinds' y → Tied P (cells kinds') (cells left') tally' sums' →
      Stage P μ p (standing cross (i + 1) (get_or starts (l + 1) 0)) marks by' left' kinds' tally' sums'
  stage_given {by = by} {left = left} stage e f settled tied =
      stage_moved
      (get_or by (line_room * p + y) 0 - 1)
      (get_or left y 0 + 1)
      (turn_few turn)
      part
      (turn_line turn)
      stage
      e
      f
      settled
      tied
      (standing cross (i + 1) (get_or starts (l + 1) 0))
      (λ z b n. omega (arith, standing_less turn z, turn_beside turn z n))
      (omega (arith, standing_less turn y, turn_own turn, (givable stage).some))
      (omega (arith, standing_less turn y, turn_own turn))

-- before a loop's first turn or after its last nothing is taken besides, or all where the lines meet
module _ {P : Pattern} {μ : Marking} {p : ℕ} {marks by left kinds tally sums : List ℕ} where
  pub none-standing :
      (cross : List ℕ) (a b : ℕ) → a ≡ b → Stage P μ p none marks by left kinds tally sums →
      Stage P μ p (standing cross a b) marks by left kinds tally sums
  none-standing cross a b e = stage_more (standing cross a b) (λ z c. sym (standing-none cross a b z e))

  pub standing_gone :
      (cross : List ℕ) (a b : ℕ) → a ≡ b → Stage P μ p (standing cross a b) marks by left kinds tally sums →
      Stage P μ p none marks by left kinds tally sums
  standing_gone cross a b e = stage_more none (λ z c. standing-none cross a b z e)

  pub meets-standing :
      {starts cross : List ℕ} → Laid P starts cross → (l a b : ℕ) → l < lines P →
      get_or starts l 0 ≡ a → get_or starts (l + 1) 0 ≡ b → Stage P μ p (meets P l) marks by left kinds tally sums →
      Stage P μ p (standing cross a b) marks by left kinds tally sums
  meets-standing {starts} {cross} laid l a b line e f =
      stage_more (standing cross a b) (λ z c. sym (standing_all laid l a b line e f z))

  pub standing-meets :
      {starts cross : List ℕ} → Laid P starts cross → (l a b : ℕ) → l < lines P →
      get_or starts l 0 ≡ a → get_or starts (l + 1) 0 ≡ b →
      Stage P μ p (standing cross a b) marks by left kinds tally sums →
      Stage P μ p (meets P l) marks by left kinds tally sums
  standing-meets laid l a b line e f = stage_more (meets P l) (λ z c. standing_all laid l a b line e f z)
