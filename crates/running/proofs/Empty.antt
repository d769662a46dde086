-- What is kept of no marks.
-- Assumes nothing.
use mathlib.Core.Bool.{false}
use mathlib.Core.List.{List, []}
use mathlib.Core.Path.{◌≡◌, refl, sym, ◌∙◌, ap}
use Prim.Native.Nat.{ℕ, ◌+◌, ◌*◌, ◌≤◌, ◌<◌}
use native.Mathlib.Omega.{arith}
use lib.Dec.{eqb, leb}
use lib.ListN.{length, get_or}
use borrow.Author.Tests.{ne_eqb, le-leb}
use Rattle.counting.specs.Tests.{pick, bit}
use Rattle.counting.proofs.Joined.{no_way, and_fails_left, or_fails, pick-false, bit-false, bit-true}
use Rattle.counting.proofs.Summed.{sum-zero}
use Rattle.counting.proofs.Counted.{count_none}
use Rattle.model.specs.Limits.{line_room, line_limit}
use Rattle.model.specs.Pattern.{Pattern, Inside, lines, row_line, on, line_count}
use Rattle.model.specs.Split.{part_number}
use Rattle.model.specs.Marking.{marking, place, unmarked, condition_for, taken, takes}
use Rattle.model.specs.Bound.{L1}
use Rattle.model.proofs.Bound.Conditions.{cut_is}
use Rattle.model.proofs.Order.Marks.{mark_none}
use Rattle.model.proofs.Order.RulesSound.{takes_none}
use Rattle.crossing.specs.Crossing.{over_line}
use Rattle.crossing.proofs.Over.{over_eq, over_one, row_inside}
use Rattle.keeping.specs.Kinds.{cells, kind_of, tally_of, leaning_left, pairs, both_are, apart, torn_of, near}
use Rattle.keeping.specs.Tied.{Tied, tally_place, near_place, tally_room, both_place, torn_place, conflicts_place}
use Rattle.keeping.specs.Kept.{crossing_with, crossing_open, none, Counted, Agree, Holds}
use Rattle.keeping.proofs.Marked.{pick-zero}
use Rattle.running.specs.Arrays.{Zeros, Neutral}

-- no line is marked
free : (P : Pattern) (l : ℕ) → marking P [] l ≡ unmarked
unfolding marking
free P l = mark_none (place P l)

-- nothing over a line
over_none : (P : Pattern) (y : ℕ) → over_line P y (λ z. 0) ≡ 0
unfolding over_line
over_none P y = sum-zero (λ t. pick (on P y t) 0 0) P.size (λ t b. pick-zero (on P y t) 0 refl)

-- the arrays as they are made: no line is marked or leans, nothing is taken, and each line has all its nonzeros left
pub record Blank (P : Pattern) (marks by left kinds tally sums loads : List ℕ) : Type 0 where
  pub marks_long : length marks ≡ line_room
  pub marked : (l : ℕ) → l < lines P → get_or marks l 0 ≡ unmarked
  pub nothing : Zeros (2 * line_room) by
  pub left_long : length left ≡ line_room
  pub counted : (l : ℕ) → l < lines P → get_or left l 0 ≡ line_count P l
  pub unleaning : Neutral kinds
  pub untallied : Zeros tally_room tally
  pub unsummed : Zeros 6 sums
  pub unloaded : Zeros 3 loads

module _ {P : Pattern} (inside : Inside P) (few : lines P ≤ line_room) (thin : (l : ℕ) → line_count P l ≤ line_limit) {marks by left kinds tally sums loads : List ℕ} (o : Blank P marks by left kinds tally sums loads) where
  kind_not : (l p : ℕ) → l < lines P → (2 ≡ p → ⊥) → eqb (get_or kinds l 0) p ≡ false
  kind_not l p b n = ne_eqb (get_or kinds l 0) p (λ e. n (sym (o.unleaning.neutral l (omega arith)) ∙ e))

  tied_none : Tied P (cells kinds) (cells left) tally sums
  unfolding tally_of leaning_left pairs both_are apart torn_of near
  tied_none =
      record {
        tally_long = o.untallied.long;
        sums_long = o.unsummed.long;
        light = λ l b. omega (arith, o.counted l b, thin l);
        tally_is = λ p x b c. o.untallied.zero_at (tally_place p x) ∙ sym (count_none _ (lines P) (λ l d. and_fails_left _ (kind_not l p d (λ e. no_way (omega arith)))));
        near_is = λ p y b c. o.untallied.zero_at (near_place p y)
            ∙ sym (over_eq inside y (λ z. bit (eqb (get_or kinds z 0) p)) (λ z. 0) (λ z d. bit-false _ (kind_not z p d (λ e. no_way (omega arith)))) ∙ over_none P y);
        left_is = λ p b. o.unsummed.zero_at p ∙ sym (sum-zero _ (lines P) (λ l d. pick-false (get_or left l 0) 0 (kind_not l p d (λ e. no_way (omega arith)))));
        both_is = λ p b. o.unsummed.zero_at (both_place p)
            ∙ sym (sum-zero _ P.size (λ t d. bit-false _ (and_fails_left _ (kind_not (row_line P t) p (row_inside inside t d) (λ e. no_way (omega arith))))));
        torn_is = o.unsummed.zero_at torn_place ∙ sym (count_none _ (lines P) (λ l d. kind_not l 3 d (λ e. no_way (omega arith))));
        conflicts_is = o.unsummed.zero_at conflicts_place
            ∙ sym (sum-zero _ P.size (λ t d. bit-false _ (or_fails
            (and_fails_left _ (kind_not (row_line P t) 0 (row_inside inside t d) (λ e. no_way (omega arith))))
            (and_fails_left _ (kind_not (row_line P t) 1 (row_inside inside t d) (λ e. no_way (omega arith)))))));
      }

  counts_none : Counted P (marking P []) 0 none by left
  unfolding crossing_with crossing_open
  counts_none =
      record {
        by_long = o.nothing.long;
        left_long = o.left_long;
        by_is = λ q y b c. o.nothing.zero_at (line_room * q + y)
            ∙ sym (omega (
              arith,
              pick-zero (eqb q 0) 0 refl,
              over_eq inside y (λ z. bit (eqb (marking P [] z) q)) (λ z. 0) (λ z d. bit-false _ (ne_eqb (marking P [] z) q (λ e. no_way (omega (arith, free P z))))),
              over_none P y,
            ));
        left_is = λ y b. omega (
          arith,
          o.counted y b,
          over_eq inside y (λ z. bit (leb 2 (marking P [] z))) (λ z. 1) (λ z d. bit-true _ (le-leb 2 (marking P [] z) (omega (arith, free P z)))),
          over_one P y,
        );
      }

  agree_none : Agree P marks by kinds
  unfolding kind_of condition_for
  agree_none =
      record {
        kinds_long = o.unleaning.long;
        kind_is = λ y b. o.unleaning.neutral y (omega arith)
            ∙ ap (λ (x : ℕ). kind_of x 0 0) (sym (o.marked y b))
            ∙ ap (λ (x : ℕ). kind_of (get_or marks y 0) x 0) (sym (o.nothing.zero_at y))
            ∙ ap (kind_of (get_or marks y 0) (get_or by y 0)) (sym (o.nothing.zero_at (line_room + y)));
      }

  -- all that is kept of no marks
  pub holds-none : Holds P (marking P []) marks by left kinds tally sums loads
  unfolding taken L1
  holds-none =
      record {
        marks_long = o.marks_long;
        marks_are = λ l b. o.marked l b ∙ sym (free P l);
        stage = record { counts = counts_none; agree = agree_none; tied = tied_none };
        loads_long = o.unloaded.long;
        taken_is = λ p. o.unloaded.zero_at (part_number p)
            ∙ sym (count_none (takes P (marking P []) p) P.size (λ t b. takes_none P (marking P []) p t (λ l. omega (arith, free P l))));
        cut_is = o.unloaded.zero_at 2
            ∙ sym (count_none _ (lines P) (λ l b. cut_is P (marking P []) l ∙ ne_eqb (marking P [] l) 2 (λ e. no_way (omega (arith, free P l)))));
      }
