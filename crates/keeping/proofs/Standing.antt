-- The crossing lines of a line, one by one: how often a line stands among those before a turn of a loop over them, and from it on.
-- Assumes nothing.
use mathlib.Core.Path.{◌≡◌, refl, sym, ◌∙◌, ap}
use mathlib.Core.List.{List}
use Prim.Native.Nat.{ℕ, ◌+◌, ◌≤◌, ◌<◌}
use native.Mathlib.Omega.{arith}
use borrow.Author.Tests.{eq-eqb, ne_eqb}
use lib.Dec.{eqb}
use lib.ListN.{get_or}
use Rattle.counting.specs.Tests.{bit}
use Rattle.counting.proofs.Joined.{bit-true, bit-false}
use Rattle.model.specs.Limits.{line_room}
use Rattle.model.specs.Pattern.{Pattern, lines}
use Rattle.crossing.specs.Crossing.{along, Laid}
use Rattle.crossing.proofs.Along.{along-none, along-more, along-first, along-split}
use Rattle.keeping.specs.Kept.{meets}

-- how often line y stands in a part of the table of crossing lines
unfoldable pub standing : List ℕ → ℕ → ℕ → ℕ → ℕ
standing cross a b y = along cross (λ z. bit (eqb z y)) a b

pub standing-none : (cross : List ℕ) (a b y : ℕ) → a ≡ b → standing cross a b y ≡ 0
unfolding standing
standing-none cross a b y e =
    ap (along cross (λ z. bit (eqb z y)) a) (sym e) ∙ along-none cross (λ z. bit (eqb z y)) a

-- in the part of line l: as often as the lines meet
pub standing_all :
    {P : Pattern} {starts cross : List ℕ} → Laid P starts cross → (l a b : ℕ) → l < lines P →
    get_or starts l 0 ≡ a → get_or starts (l + 1) 0 ≡ b → (y : ℕ) → standing cross a b y ≡ meets P l y
unfolding standing meets
standing_all {starts = starts} {cross = cross} laid l a b line e f y =
    ap (λ (x : ℕ). standing cross x b y) (sym e)
    ∙ ap (λ (x : ℕ). standing cross (get_or starts l 0) x y) (sym f)
    ∙ laid.crosses (λ z. bit (eqb z y)) l line

-- one turn of a loop over the crossing lines of line l, at line y
pub record Turn (P : Pattern) (starts cross : List ℕ) (l i y : ℕ) : Type 0 where
  pub laid : Laid P starts cross
  pub line : l < lines P
  pub from : get_or starts l 0 ≤ i
  pub to : i < get_or starts (l + 1) 0
  pub here : y ≡ get_or cross i 0

module _ {P : Pattern} {starts cross : List ℕ} {l i y : ℕ} (turn : Turn P starts cross l i y) where
  -- the line is one of the pattern
  pub turn_line : y < lines P
  turn_line =
      omega (arith, turn.here, turn.laid.lined l i turn.line turn.from turn.to)

  -- there is room for each line
  pub turn_few : lines P ≤ line_room
  turn_few = omega (arith, turn.laid.few)

  pub turn_within : y < line_room
  turn_within = omega (arith, turn_line, turn_few)

  -- one line more before i, or one less from i on
  pub standing-more : (z : ℕ) → standing cross (get_or starts l 0) (i + 1) z ≡ standing cross (get_or starts l 0) i z + bit (eqb y z)
  unfolding standing
  standing-more z =
      along-more cross (λ x. bit (eqb x z)) (get_or starts l 0) i turn.from
      ∙ ap (λ x. standing cross (get_or starts l 0) i z + bit (eqb x z)) (sym turn.here)

  pub standing_less : (z : ℕ) → standing cross i (get_or starts (l + 1) 0) z ≡ bit (eqb y z) + standing cross (i + 1) (get_or starts (l + 1) 0) z
  unfolding standing
  standing_less z =
      along-first cross (λ x. bit (eqb x z)) i (get_or starts (l + 1) 0) turn.to
      ∙ ap (λ x. bit (eqb x z) + standing cross (i + 1) (get_or starts (l + 1) 0) z) (sym turn.here)

  -- those before i and those from i on are where the lines meet
  pub standing_both : (z : ℕ) → standing cross (get_or starts l 0) i z + standing cross i (get_or starts (l + 1) 0) z ≡ meets P l z
  unfolding standing
  standing_both z =
      omega (
        arith,
        along-split cross (λ x. bit (eqb x z)) (get_or starts l 0) i (get_or starts (l + 1) 0) turn.from (omega (arith, turn.to)),
        standing_all turn.laid l (get_or starts l 0) (get_or starts (l + 1) 0) turn.line refl refl z,
      )

  -- line y, with z for y
  pub turn_own : bit (eqb y y) ≡ 1
  turn_own = bit-true (eqb y y) (eq-eqb y y refl)

  pub turn_beside : (z : ℕ) → (z ≡ y → ⊥) → bit (eqb y z) ≡ 0
  turn_beside z n = bit-false (eqb y z) (ne_eqb y z (λ e. n (sym e)))
