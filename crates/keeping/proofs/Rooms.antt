-- What is tied to the kinds of lines is within bounds: no count is too large, and none too small to take a line out of it.
-- Assumes nothing.
use mathlib.Core.List.{List}
use mathlib.Core.Path.{◌≡◌, refl, ◌∙◌, ap}
use Prim.Native.Nat.{ℕ, ◌+◌, ◌-◌, ◌*◌, ◌≤◌, ◌<◌}
use native.Mathlib.Omega.{arith}
use borrow.Author.Tests.{eq-eqb, lt-ltb, ltb-true, ltb-false, eqb-true, eqb-false}
use lib.Dec.{eqb, ltb}
use lib.ListN.{get_or}
use Rattle.counting.specs.Tests.{◌and◌, ◌or◌, pick, bit}
use Rattle.counting.proofs.Joined.{by_test, pick_true, pick-false, bit-true, and_intro}
use Rattle.counting.proofs.Summed.{sum_le, sum_times, sum_term}
use Rattle.counting.proofs.Counted.{count_most, count-some}
use Rattle.model.specs.Limits.{line_room}
use Rattle.model.specs.Pattern.{Pattern, Inside, lines, row_line, column_line}
use Rattle.crossing.specs.Crossing.{Laid}
use Rattle.keeping.specs.Kinds.{tally_of, leaning_left, torn_of, pairs, both_are, apart, near}
use Rattle.keeping.specs.Tied.{weight_room, Tied, both_place, near_place}
use Rattle.keeping.specs.Moves.{Leavable, Enterable, Movable, Nears}
use Rattle.keeping.specs.Kept.{meets}
use Rattle.keeping.proofs.Marked.{meets_most}
use Rattle.keeping.proofs.Nears.{near_few}
use Rattle.keeping.proofs.Ties.{both_with, conflicts_with, near_with}

-- each count has the line in it
tally_some : (P : Pattern) (kind left : ℕ → ℕ) (y : ℕ) → y < lines P → 1 ≤ tally_of P kind left (kind y) (left y)
unfolding tally_of
tally_some P kind left y line =
    count-some
    (λ l. eqb (kind l) (kind y) and eqb (left l) (left y))
    (lines P)
    y
    line
    (and_intro (eq-eqb (kind y) (kind y) refl) (eq-eqb (left y) (left y) refl))

left_some : (P : Pattern) (kind left : ℕ → ℕ) (y : ℕ) → y < lines P → left y ≤ leaning_left P kind left (kind y)
unfolding leaning_left
left_some P kind left y line =
    omega (
      arith,
      sum_term (λ l. pick (eqb (kind l) (kind y)) (left l) 0) (lines P) y line,
      pick_true (left y) 0 (eq-eqb (kind y) (kind y) refl),
    )

torn_some : (P : Pattern) (kind : ℕ → ℕ) (y : ℕ) → y < lines P → kind y ≡ 3 → 1 ≤ torn_of P kind
unfolding torn_of
torn_some P kind y line e = count-some (λ l. eqb (kind l) 3) (lines P) y line (eq-eqb (kind y) 3 e)

-- and no count is large
tally_most : (P : Pattern) (kind left : ℕ → ℕ) (p x : ℕ) → tally_of P kind left p x ≤ lines P
unfolding tally_of
tally_most P kind left p x = count_most (λ l. eqb (kind l) p and eqb (left l) x) (lines P)

left_most :
    (P : Pattern) (kind left : ℕ → ℕ) (p : ℕ) → ((l : ℕ) → l < lines P → left l < weight_room) →
    leaning_left P kind left p ≤ weight_room * lines P
unfolding leaning_left
left_most P kind left p light =
    omega (
      arith,
      sum_le
          (λ l. pick (eqb (kind l) p) (left l) 0)
          (λ l. weight_room * bit (eqb (kind l) p))
          (lines P)
          (λ l b. by_test
          (eqb (kind l) p)
          (λ e. omega (arith, light l b, pick_true (left l) 0 e, bit-true (eqb (kind l) p) e))
          (λ e. omega (arith, pick-false (left l) 0 e))),
      sum_times weight_room (λ l. bit (eqb (kind l) p)) (lines P),
      count_most (λ l. eqb (kind l) p) (lines P),
    )

both_most : (P : Pattern) (kind : ℕ → ℕ) (p : ℕ) → pairs P (both_are p) kind ≤ P.size
unfolding pairs both_are
both_most P kind p = count_most (λ t. eqb (kind (row_line P t)) p and eqb (kind (column_line P t)) p) P.size

conflicts_most : (P : Pattern) (kind : ℕ → ℕ) → pairs P apart kind ≤ P.size
unfolding pairs apart
conflicts_most P kind =
    count_most
    (λ t. (eqb (kind (row_line P t)) 0 and eqb (kind (column_line P t)) 1)
    or (eqb (kind (row_line P t)) 1 and eqb (kind (column_line P t)) 0))
    P.size

torn_most : (P : Pattern) (kind : ℕ → ℕ) → torn_of P kind ≤ lines P
unfolding torn_of
torn_most P kind = count_most (λ l. eqb (kind l) 3) (lines P)

-- a line can be taken out
pub leaves :
    {P : Pattern} {tally sums : List ℕ} {same other : ℕ} → Inside P → (kind left : ℕ → ℕ) (y : ℕ) → y < lines P →
    (kind y < 2 → same ≡ near P kind (kind y) y) → (kind y < 2 → other ≡ near P kind (1 - kind y) y) →
    Tied P kind left tally sums → Leavable (kind y) (left y) same other tally sums
leaves {P} inside kind left y line same_is other-is tied =
    record {
      tally_long = tied.tally_long;
      sums_long = tied.sums_long;
      light = tied.light y line;
      tally_some = λ b. omega (arith, tied.tally_is (kind y) (left y) b (tied.light y line), tally_some P kind left y line);
      left_some = λ b. omega (arith, tied.left_is (kind y) b, left_some P kind left y line);
      both_some = λ b. omega (
        arith,
        same_is b,
        tied.both_is (kind y) b,
        both_with inside kind left y line (kind y) b,
        pick_true (near P kind (kind y) y) 0 (eq-eqb (kind y) (kind y) refl),
      );
      torn_some = λ e. omega (arith, tied.torn_is, torn_some P kind y line e);
      conflicts_some = λ b. omega (
        arith,
        other-is b,
        tied.conflicts_is,
        conflicts_with inside kind left y line,
        pick_true (near P kind (1 - kind y) y) 0 (lt-ltb (kind y) 2 b),
      );
    }

-- a line can be counted, also where crossing lines have been counted since
pub enters :
    {P : Pattern} {starts cross tally tally₁ sums : List ℕ} {own same other : ℕ} → Laid P starts cross →
    (kind left : ℕ → ℕ) → own < weight_room → same < 65536 → other < 65536 → Tied P kind left tally sums →
    {k : ℕ} {much : ℕ → ℕ} → Nears k much tally tally₁ → Enterable own same other tally₁ sums
enters {P} {starts} {cross} {tally} {tally₁} {sums} laid kind left light same_few other_few tied nears =
    record {
      tally_long = nears.long ∙ tied.tally_long;
      sums_long = tied.sums_long;
      light = light;
      same_few = same_few;
      other_few = other_few;
      tally-room = λ p x b d. omega (arith, nears.tally_stays p x b d, tied.tally_is p x b d, tally_most P kind left p x, laid.few);
      sums_room = room;
    }
  where
    room : (i : ℕ) → i < 6 → get_or sums i 0 < 1_000_000_000
    room i b =
        by_test
        (ltb i 2)
        (λ e. omega (arith, tied.left_is i (ltb-true i 2 e), left_most P kind left i tied.light, laid.few))
        (λ e. by_test
        (ltb i 4)
        (λ f. let q : both_place (i - 2) ≡ i = omega (arith, ltb-false i 2 e) in
        omega (
          arith,
          ap (λ (j : ℕ). get_or sums j 0) q,
          tied.both_is (i - 2) (omega (arith, ltb-true i 4 f)),
          both_most P kind (i - 2),
          laid.small,
        ))
        (λ f. by_test
        (eqb i 4)
        (λ g. omega (
          arith,
          ap (λ (j : ℕ). get_or sums j 0) (eqb-true i 4 g),
          tied.torn_is,
          torn_most P kind,
          laid.few,
        ))
        (λ g. let q : i ≡ 5 = omega (arith, ltb-false i 4 f, eqb-false i 4 g) in
        omega (arith, ap (λ (j : ℕ). get_or sums j 0) q, tied.conflicts_is, conflicts_most P kind, laid.small))))

-- a line can get another number of untaken nonzeros
pub moves :
    {P : Pattern} {tally sums : List ℕ} → lines P ≤ line_room → (kind left : ℕ → ℕ) (y to : ℕ) → y < lines P →
    to < weight_room → Tied P kind left tally sums → Movable (kind y) (left y) to tally sums
moves {P} few kind left y to line light tied =
    record {
      tally_long = tied.tally_long;
      sums_long = tied.sums_long;
      from_light = tied.light y line;
      to_light = light;
      tally_some = λ b. omega (arith, tied.tally_is (kind y) (left y) b (tied.light y line), tally_some P kind left y line);
      tally-room = λ b. omega (arith, tied.tally_is (kind y) to b light, tally_most P kind left (kind y) to);
      left_some = λ b. omega (arith, tied.left_is (kind y) b, left_some P kind left y line);
      left_room = λ b. omega (arith, tied.left_is (kind y) b, left_most P kind left (kind y) tied.light);
    }

-- a line can be counted once less among the crossing lines of its kind of each line
pub near-some :
    {P : Pattern} {tally sums : List ℕ} → Inside P → (kind left : ℕ → ℕ) (y : ℕ) → y < lines P → kind y < 2 →
    Tied P kind left tally sums → (z : ℕ) → z < lines P → meets P y z ≤ get_or tally (near_place (kind y) z) 0
near-some {P} inside kind left y line leans tied z b =
    omega (
      arith,
      tied.near_is (kind y) z leans b,
      near_with inside kind left y line (kind y) z leans,
      pick_true (meets P y z) 0 (eq-eqb (kind y) (kind y) refl),
    )

-- or once more
pub near-room :
    {P : Pattern} {starts cross tally sums : List ℕ} → Laid P starts cross → (kind left : ℕ → ℕ) (y p : ℕ) → p < 2 →
    Tied P kind left tally sums → (z : ℕ) → z < lines P → get_or tally (near_place p z) 0 + meets P y z < 65536
near-room {P} laid kind left y p leans tied z b =
    omega (
      arith,
      tied.near_is p z leans b,
      near_few laid.inside kind p z,
      meets_most laid.inside y z,
      laid.thin z,
      laid.thin y,
    )
