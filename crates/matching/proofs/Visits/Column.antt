-- What the code of a column's visit does at each of its returns is what the search does.
-- Assumes nothing.
use mathlib.Core.Bool.{Bool, true, false}
use mathlib.Core.List.{List}
use mathlib.Core.Path.{◌≡◌, sym, ◌∙◌, ap}
use Prim.Native.Nat.{ℕ, zero, suc, pred, ◌+◌, ◌-◌, ◌%◌, ◌≤◌, ◌<◌}
use native.Mathlib.Omega.{arith}
use lib.ListN.{length, get_or, set, length-set}
use Rattle.counting.proofs.Joined.{no_way}
use Rattle.model.specs.Matching.{visited, looked, through, column_within, hand_over, with_column, with_mate}
use Rattle.model.proofs.Matching.Visits.{within_free, within_held, within-entered, hand_found, hand_not}
use Rattle.matching.specs.declared.augmenting.Visit.{Visit}
use Rattle.matching.specs.Augmenting.{Ground, columns_in, entered_in, mates_in, unseen, RowVisits, ColumnVisits, side_room}
use Rattle.matching.proofs.Visits.Arrays.{not_entered, is-entered, entered-set, mates_set, mate_free, mate_held, unseen-set}

-- a visit's answer
abbrev pub answer : Bool → ℕ → Visit
answer found looks = record { found = found; looks = looks }

-- column k is the column j that is visited for row i, in arrays of their length
pub record ColumnAt (G : Ground) (k j i : ℕ) (seen mate : List ℕ) : Type 0 where
  pub same : k ≡ j
  pub seen_long : length seen ≡ side_room
  pub mate_long : length mate ≡ side_room
  pub column-in : k < side_room
  pub row-in : i < side_room

module _ {G : Ground} {k j i : ℕ} {seen mate : List ℕ} (at : ColumnAt G k j i seen mate) where
  -- the visit of k is the visit of j
  at_column :
      (depth : ℕ) →
      looked 1 (column_within (columns_in G) depth k i (entered_in seen) (mates_in mate))
      ≡ looked 1 (column_within (columns_in G) depth j i (entered_in seen) (mates_in mate))
  at_column depth =
      ap (λ (c : ℕ). looked 1 (column_within (columns_in G) depth c i (entered_in seen) (mates_in mate))) at.same

  -- it was entered before
  pub at_entered : (get_or seen k 0 ≡ 0 → ⊥) → ColumnVisits G j i seen mate (answer false 1) seen mate
  unfolding looked
  at_entered e =
      record {
        seen_long = at.seen_long;
        mate_long = at.mate_long;
        paid = omega arith;
        is = λ depth few. sym (ap
            (looked 1)
            (within-entered (columns_in G) depth k i (entered_in seen) (mates_in mate) (is-entered seen k e)))
            ∙ at_column depth;
      }

  -- entering it leaves one fewer
  pub enter_fewer : get_or seen k 0 ≡ 0 → unseen (set seen k 1) + 1 ≡ unseen seen
  enter_fewer e = unseen-set seen k (omega (arith, at.seen_long, at.column-in)) e

  module _ (e : get_or seen k 0 ≡ 0) where
    -- its row's new mate
    new_mate : (m : List ℕ) → length m ≡ side_room → mates_in (set m k (i + 1)) ≡ with_mate (mates_in m) k (suc i)
    new_mate m l = mates_set m k i (omega (arith, at.column-in)) at.row-in

    -- it is free
    free_is :
        get_or mate k 0 ≡ 0 → (depth : ℕ) → unseen seen ≤ depth →
        visited true 1 (entered_in (set seen k 1)) (mates_in (set mate k (i + 1)))
        ≡ looked 1 (column_within (columns_in G) depth k i (entered_in seen) (mates_in mate))
    unfolding looked
    free_is f zero few = no_way (omega (arith, enter_fewer e))
    free_is f (suc depth) few =
        ap (λ (s : ℕ → Bool). visited true 1 s (mates_in (set mate k (i + 1)))) (entered-set seen k (omega (arith, at.seen_long, at.column-in)))
        ∙ ap (visited true 1 (with_column (entered_in seen) k)) (new_mate mate at.mate_long)
        ∙ sym (ap
        (looked 1)
        (within_free (columns_in G) depth k i (entered_in seen) (mates_in mate) (not_entered seen k e) (mate_free mate k f)))

    pub at_free :
        get_or mate k 0 ≡ 0 →
        ColumnVisits G j i seen mate (answer true 1) (set seen k 1) (set mate k (i + 1))
    at_free f =
        record {
          seen_long = length-set seen k 1 ∙ at.seen_long;
          mate_long = length-set mate k (i + 1) ∙ at.mate_long;
          paid = omega (arith, enter_fewer e);
          is = λ depth few. free_is f depth few ∙ at_column depth;
        }

    -- its row was visited
    module _ (f : get_or mate k 0 ≡ 0 → ⊥) (v : Visit) (s m : List ℕ) (row : RowVisits G ((get_or mate k 0 - 1) % side_room) (set seen k 1) mate v s m) where
      -- what the row's visit left, handed over to the column
      held_is :
          (depth : ℕ) → unseen seen ≤ depth →
          looked 1 (hand_over k i (visited v.found v.looks (entered_in s) (mates_in m)))
          ≡ looked 1 (column_within (columns_in G) depth k i (entered_in seen) (mates_in mate))
      held_is zero few = no_way (omega (arith, enter_fewer e))
      held_is (suc depth) few =
          let r = (get_or mate k 0 - 1) % side_room in
          let is_row : r ≡ pred (mates_in mate k) = omega (arith, mate_held mate k f) in
          ap
          (looked 1)
          (ap (hand_over k i) (row.is depth (omega (arith, enter_fewer e)))
          ∙ ap
          (λ (x : ℕ → Bool). hand_over k i (through (column_within (columns_in G) depth) r (columns_in G r) x (mates_in mate)))
          (entered-set seen k (omega (arith, at.seen_long, at.column-in)))
          ∙ ap
          (λ (x : ℕ). hand_over k i (through (column_within (columns_in G) depth) x (columns_in G x) (with_column (entered_in seen) k) (mates_in mate)))
          is_row
          ∙ sym (within_held
          (columns_in G)
          depth
          k
          i
          (entered_in seen)
          (mates_in mate)
          (not_entered seen k e)
          (λ z. no_way (omega (arith, mate_held mate k f)))))

      -- one look more
      one_more : (found : Bool) (entered : ℕ → Bool) (mates : ℕ → ℕ) →
          visited found (v.looks + 1) entered mates ≡ looked 1 (visited found v.looks entered mates)
      unfolding looked
      one_more found entered mates =
          let q : v.looks + 1 ≡ 1 + v.looks = omega arith in
          ap (λ (x : ℕ). visited found x entered mates) q

      -- it found another column
      pub at_found :
          v.found ≡ true → ColumnVisits G j i seen mate (answer true (v.looks + 1)) s (set m k (i + 1))
      at_found y =
          record {
            seen_long = row.seen_long;
            mate_long = length-set m k (i + 1) ∙ row.mate_long;
            paid = omega (arith, row.paid, enter_fewer e);
            is = λ depth few. ap (visited true (v.looks + 1) (entered_in s)) (new_mate m row.mate_long)
                ∙ one_more true (entered_in s) (with_mate (mates_in m) k (suc i))
                ∙ ap (looked 1) (sym (hand_found k i (visited v.found v.looks (entered_in s) (mates_in m)) y))
                ∙ held_is depth few
                ∙ at_column depth;
          }

      -- or it did not
      pub at_not :
          v.found ≡ false → ColumnVisits G j i seen mate (answer false (v.looks + 1)) s m
      at_not y =
          record {
            seen_long = row.seen_long;
            mate_long = row.mate_long;
            paid = omega (arith, row.paid, enter_fewer e);
            is = λ depth few. one_more false (entered_in s) (mates_in m)
                ∙ ap (looked 1) (sym (hand_not k i (visited v.found v.looks (entered_in s) (mates_in m)) y))
                ∙ held_is depth few
                ∙ at_column depth;
          }
