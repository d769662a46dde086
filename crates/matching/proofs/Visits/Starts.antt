-- What the code of a start and of the starts together does is what the search does.
-- Assumes nothing.
use mathlib.Core.Bool.{Bool, true, false, not}
use mathlib.Core.List.{List, [], ◌∷◌}
use mathlib.Core.Path.{◌≡◌, refl, sym, ◌∙◌, ap}
use Prim.Native.Nat.{ℕ, ◌+◌, ◌≤◌}
use native.Mathlib.Numerals.{add-one}
use native.Mathlib.Omega.{arith}
use lib.ListN.{length}
use Rattle.std.specs.Int.{from_bool}
use Rattle.counting.specs.Tests.{bit}
use Rattle.counting.proofs.Joined.{clash}
use Rattle.model.specs.Walk.{is_empty}
use Rattle.model.specs.Matching.{Visited, through, column_within, start_from, Tally, tally, counted, starts_from}
use Rattle.model.proofs.Matching.Visits.{start-without}
use Rattle.matching.specs.declared.augmenting.Visit.{Visit}
use Rattle.matching.specs.declared.augmenting.Matching.{Matching}
use Rattle.matching.specs.Augmenting.{Ground, columns_in, entered_in, mates_in, unseen, RowVisits, Starts, no_columns, searched, matching_in, side_room}
use Rattle.matching.proofs.Visits.Arrays.{none-entered, none-matched, none-unseen}
use Rattle.matching.proofs.Visits.Column.{answer}

-- no column is left
no_columns_lem : (js : List ℕ) → not (is_empty js) ≡ false → js ≡ []
unfolding is_empty
no_columns_lem [] e = refl
no_columns_lem (j ∷ js) e = clash refl e

module _ (G : Ground) (i : ℕ) (mate : List ℕ) where
  -- a row without conflicts
  pub start_passed :
      length mate ≡ side_room → not (is_empty (columns_in G i)) ≡ false → Starts G i mate (answer false 0) mate
  start_passed l e =
      let none = start-without (columns_in G) side_room i (mates_in mate) (no_columns_lem (columns_in G i) e) in
      record {
        mate_long = l;
        few = omega arith;
        found_is = ap (λ (o : Visited). o.found) (sym none);
        looks_is = ap (λ (o : Visited). o.looks) (sym none);
        mate_is = ap (λ (o : Visited). o.mate) (sym none);
      }

  -- a row with conflicts
  pub start_goes :
      (v : Visit) (seen s m : List ℕ) → seen ≡ no_columns → RowVisits G i seen mate v s m → Starts G i mate v m
  unfolding start_from
  start_goes v seen s m e row =
      let fresh : unseen seen ≤ side_room = omega (arith, none-unseen, ap unseen e) in
      let is =
      row.is side_room fresh
      ∙ ap (λ (x : List ℕ). through (column_within (columns_in G) side_room) i (columns_in G i) (entered_in x) (mates_in mate)) e
      ∙ ap
      (λ (x : ℕ → Bool). through (column_within (columns_in G) side_room) i (columns_in G i) x (mates_in mate))
      none-entered in
      record {
        mate_long = row.mate_long;
        few = omega (arith, row.paid, none-unseen, ap unseen e);
        found_is = ap (λ (o : Visited). o.found) is;
        looks_is = ap (λ (o : Visited). o.looks) is;
        mate_is = ap (λ (o : Visited). o.mate) is;
      }

-- a test as a number, as the code converts it
pub from_bool_is : (b : Bool) → from_bool b ≡ bit b
unfolding bit
from_bool_is true = refl
from_bool_is false = refl

-- the starts begin
pub starts_begin : (G : Ground) (mate : List ℕ) → mate ≡ no_columns → tally 0 0 (mates_in mate) ≡ starts_from (columns_in G) side_room 0
unfolding starts_from
starts_begin G mate e = ap (tally 0 0) (ap mates_in e ∙ none-matched)

-- and go on to one more row
pub starts_more :
    (G : Ground) (i size looks one : ℕ) (mate m : List ℕ) (v : Visit) →
    tally size looks (mates_in mate) ≡ starts_from (columns_in G) side_room i → Starts G i mate v m → one ≡ bit v.found →
    tally (size + one) (looks + v.looks) (mates_in m) ≡ starts_from (columns_in G) side_room (i + 1)
unfolding starts_from counted
starts_more G i size looks one mate m v e s b =
    let o = start_from (columns_in G) side_room i (mates_in mate) in
    (λ k. tally (size + (b ∙ ap bit s.found_is) k) (looks + s.looks_is k) (s.mate_is k))
    ∙ ap (λ (k : Tally). counted k (start_from (columns_in G) side_room i k.mate)) e
    ∙ ap (starts_from (columns_in G) side_room) (sym (add-one i))

-- and end after the last row
pub starts_end :
    (G : Ground) (i size looks : ℕ) (mate : List ℕ) →
    tally size looks (mates_in mate) ≡ starts_from (columns_in G) side_room i → i ≡ G.m →
    ◌≡◌ {A = Matching} record { size = size; looks = looks } (matching_in G)
unfolding matching_in searched
starts_end G i size looks mate e f =
    ap (λ (k : Tally). record { size = k.size; looks = k.looks }) (e ∙ ap (starts_from (columns_in G) side_room) f)
