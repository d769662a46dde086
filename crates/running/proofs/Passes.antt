-- The nonzeros of a line taken one by one, or given back: laws of both ways.
-- Assumes nothing.
use mathlib.Core.Bool.{Bool, true, false, not}
use mathlib.Core.List.{List}
use mathlib.Core.Path.{◌≡◌, refl, sym, subst}
use Prim.Native.Nat.{ℕ, ◌+◌, ◌*◌, ◌<◌}
use lib.Dec.{eqb}
use lib.ListN.{get_or, set}
use Rattle.std.specs.Int.{from_bool}
use Rattle.model.specs.Limits.{line_room}
use Rattle.model.specs.Pattern.{Pattern, lines}
use Rattle.model.specs.Marking.{Marking, unmarked}
use Rattle.crossing.specs.Crossing.{Laid}
use Rattle.keeping.specs.Kinds.{cells, kind_of}
use Rattle.keeping.specs.Tied.{Tied}
use Rattle.keeping.specs.Kept.{Stage}
use Rattle.keeping.proofs.Standing.{standing, Turn}
use Rattle.keeping.proofs.StagesSettled.{Settled}
use Rattle.keeping.proofs.StagesTurns.{takeable, kind_taken, stage_taken, none-standing, standing-meets, givable, kind_given, stage_given, meets-standing, standing_gone}
use Rattle.running.specs.Ways.{moved, Countable, Passable, besides}

-- what is taken besides while the lines from a to b of the table are gone through, at i
abbrev pub passed : Bool → List ℕ → ℕ → ℕ → ℕ → ℕ → ℕ
passed true cross a i b = standing cross a i
passed false cross a i b = standing cross i b

-- where the line whose count is changed is the one that was read, what is asked of the one is asked of the other, and so is what is done to it
pub asks_same :
    (taken : Bool) (by left kinds tally sums : List ℕ) (p x y : ℕ) →
    Countable taken by left kinds tally sums y p → x ≡ y → Countable taken by left kinds tally sums x p
asks_same taken by left kinds tally sums p x y k e =
    subst (λ (z : ℕ). Countable taken by left kinds tally sums z p) (sym e) k

pub by_same :
    (taken : Bool) (by by' : List ℕ) (p x y : ℕ) →
    by' ≡ set by (line_room * p + x) (moved taken (get_or by (line_room * p + x) 0)) → x ≡ y →
    by' ≡ set by (line_room * p + y) (moved taken (get_or by (line_room * p + y) 0))
by_same taken by by' p x y k e =
    subst (λ (z : ℕ). by' ≡ set by (line_room * p + z) (moved taken (get_or by (line_room * p + z) 0))) e k

pub left_same :
    (taken : Bool) (left left' : List ℕ) (x y : ℕ) →
    left' ≡ set left x (moved taken (get_or left x 0)) → x ≡ y → left' ≡ set left y (moved taken (get_or left y 0))
left_same taken left left' x y k e =
    subst (λ (z : ℕ). left' ≡ set left z (moved taken (get_or left z 0))) e k

-- what is asked of a line whose nonzeros are taken, or given back
pub record Asked_all (taken : Bool) (starts cross marks by left kinds tally sums : List ℕ) (l p : ℕ) : Type 0 where
  pub pattern : Pattern
  pub μ : Marking
  pub laid : Laid pattern starts cross
  pub line : l < lines pattern
  pub part : p < 2
  pub free : μ l ≡ unmarked
  pub stage : Stage pattern μ p (besides (not taken) pattern l) marks by left kinds tally sums

pub asked_all :
    (taken : Bool) (starts cross marks by left kinds tally sums : List ℕ) (l p : ℕ) →
    Passable taken starts cross marks by left kinds tally sums l p → Asked_all taken starts cross marks by left kinds tally sums l p
asked_all true starts cross marks by left kinds tally sums l p k =
    record { pattern = k.pattern; μ = k.μ; laid = k.laid; line = k.line; part = k.part; free = k.free; stage = k.stage }
asked_all false starts cross marks by left kinds tally sums l p k =
    record { pattern = k.pattern; μ = k.μ; laid = k.laid; line = k.line; part = k.part; free = k.free; stage = k.stage }

module _ (P : Pattern) (μ : Marking) (p : ℕ) (starts cross marks by left kinds tally sums : List ℕ) (l : ℕ) where
  -- before the first line, and after the last
  pub pass_begins :
      (taken : Bool) (i : ℕ) → Laid P starts cross → l < lines P → get_or starts l 0 ≡ i →
      Stage P μ p (besides (not taken) P l) marks by left kinds tally sums →
      Stage P μ p (passed taken cross (get_or starts l 0) i (get_or starts (l + 1) 0)) marks by left kinds tally sums
  pass_begins true i laid line e stage = none-standing cross (get_or starts l 0) i e stage
  pass_begins false i laid line e stage = meets-standing laid l i (get_or starts (l + 1) 0) line e refl stage

  pub pass_ends :
      (taken : Bool) (i : ℕ) → Laid P starts cross → l < lines P → i ≡ get_or starts (l + 1) 0 →
      Stage P μ p (passed taken cross (get_or starts l 0) i (get_or starts (l + 1) 0)) marks by left kinds tally sums →
      Stage P μ p (besides taken P l) marks by left kinds tally sums
  pass_ends true i laid line e stage = standing-meets laid l (get_or starts l 0) i line refl (sym e) stage
  pass_ends false i laid line e stage = standing_gone cross i (get_or starts (l + 1) 0) e stage

  -- one line
  module _ (i y : ℕ) (turn : Turn P starts cross l i y) (part : p < 2) (free : μ l ≡ unmarked) where
    pub pass_asks :
        (taken : Bool) → Stage P μ p (passed taken cross (get_or starts l 0) i (get_or starts (l + 1) 0)) marks by left kinds tally sums →
        Countable taken by left kinds tally sums y p
    pass_asks true stage = takeable turn part free stage
    pass_asks false stage = givable turn part free stage

    pub pass_kind :
        (taken : Bool) (by' : List ℕ) → Stage P μ p (passed taken cross (get_or starts l 0) i (get_or starts (l + 1) 0)) marks by left kinds tally sums →
        by' ≡ set by (line_room * p + y) (moved taken (get_or by (line_room * p + y) 0)) →
        eqb (get_or by' (line_room * p + y) 0) (from_bool taken) ≡ false →
        get_or kinds y 0 ≡ kind_of (get_or marks y 0) (get_or by' y 0) (get_or by' (line_room + y) 0)
    pass_kind true by' stage e f = kind_taken turn part free stage e f
    pass_kind false by' stage e f = kind_given turn part free stage e f

    pub pass_more :
        (taken : Bool) (by' left' kinds' tally' sums' : List ℕ) →
        Stage P μ p (passed taken cross (get_or starts l 0) i (get_or starts (l + 1) 0)) marks by left kinds tally sums →
        by' ≡ set by (line_room * p + y) (moved taken (get_or by (line_room * p + y) 0)) →
        left' ≡ set left y (moved (not taken) (get_or left y 0)) →
        Settled marks by' kinds kinds' y → Tied P (cells kinds') (cells left') tally' sums' →
        Stage P μ p (passed taken cross (get_or starts l 0) (i + 1) (get_or starts (l + 1) 0)) marks by' left' kinds' tally' sums'
    pass_more true by' left' kinds' tally' sums' stage e f settled tied = stage_taken turn part free stage e f settled tied
    pass_more false by' left' kinds' tally' sums' stage e f settled tied = stage_given turn part free stage e f settled tied
