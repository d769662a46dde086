-- L4 and its looks from an array of how lines lean.
-- Assumes nothing.
use mathlib.Core.List.{List}
use mathlib.Core.Path.{◌≡◌, sym, ◌∙◌, ap}
use Prim.Native.Nat.{ℕ, zero, suc, ◌≤◌, ◌<◌}
use native.Mathlib.Omega.{arith}
use lib.Dec.{eqb}
use borrow.Author.Tests.{eqb-true}
use Rattle.counting.specs.Tests.{pick}
use Rattle.counting.proofs.Joined.{by_test, pick_true, pick-false, bit_le_one}
use Rattle.model.specs.declared.Part.TheVariants.{Zero, One}
use Rattle.model.specs.Pattern.{pattern_of}
use Rattle.model.specs.Marking.{Marking}
use Rattle.model.specs.Bound.{L4}
use Rattle.model.specs.Matching.{Tally, start_from, counted, starts_from, looks, conflicts}
use Rattle.model.proofs.Matching.Searched.{search_is-L4}
use Rattle.model.proofs.Matching.Looks.{no_conflicts, no_looks}
use Rattle.matching.specs.declared.augmenting.Matching.{Matching}
use Rattle.matching.specs.Augmenting.{Ground, ground_of, columns_in, searched, matching_in, side_room}
use Rattle.matching.proofs.Conflicts.{Arrays, searched-is}
use Rattle.bound.specs.Evaluated.{Listed, LeansAt, no_matching}

-- each row adds at most one successful start
starts_most : (columns : ℕ → List ℕ) (n i : ℕ) → (starts_from columns n i).size ≤ i
unfolding starts_from counted
starts_most columns n zero = omega arith
starts_most columns n (suc i) =
    omega (
      arith,
      starts_most columns n i,
      bit_le_one (start_from columns n i (starts_from columns n i).mate).found,
    )

-- so the matching has at most as many conflicts as there are rows
pub search_most : (G : Ground) → (matching_in G).size ≤ G.m
unfolding matching_in searched
search_most G = starts_most (columns_in G) side_room G.m

-- its rows rise
rows_rise :
    (m n nonzeros : ℕ) (list starts : List ℕ) → Listed m n nonzeros list starts →
    (t : ℕ) → suc t < (pattern_of m n nonzeros list).size →
    (pattern_of m n nonzeros list).row t ≤ (pattern_of m n nonzeros list).row (suc t)
unfolding pattern_of
rows_rise m n nonzeros list starts k t b = k.rising t b

module _ (m n nonzeros : ℕ) (list starts : List ℕ) (μ : Marking) (lean : List ℕ) (k : Listed m n nonzeros list starts) (right : LeansAt (pattern_of m n nonzeros list) μ lean) where
  arrays : Arrays m n nonzeros list lean starts μ
  arrays =
      record {
        few_rows = omega (arith, k.rows_small);
        few_columns = omega (arith, k.columns_small);
        inside = k.inside;
        rising = rows_rise m n nonzeros list starts k;
        starts_are = k.started;
        zero_are = right Zero;
        one_are = right One;
      }

  -- the matching: its size is L4
  pub matched_are :
      (count : ℕ) (x : Matching) → count ≡ conflicts (pattern_of m n nonzeros list) μ →
      x ≡ pick (eqb count 0) no_matching (matching_in (ground_of lean m list starts)) →
      (x.size ≡ L4 (pattern_of m n nonzeros list) μ) × (x.looks ≡ looks (pattern_of m n nonzeros list) μ)
  unfolding matching_in looks
  matched_are count x ec e =
      let P = pattern_of m n nonzeros list in
      by_test
      (eqb count 0)
      (λ z. let none = sym ec ∙ eqb-true count 0 z in
      let is = e ∙ pick_true no_matching (matching_in (ground_of lean m list starts)) z in (
        ap (λ (y : Matching). y.size) is ∙ sym (no_conflicts P μ k.inside none),
        ap (λ (y : Matching). y.looks) is ∙ sym (no_looks P μ k.inside none),
      ))
      (λ z. let is = e ∙ pick-false no_matching (matching_in (ground_of lean m list starts)) z in
      let all = searched-is m n nonzeros list lean starts μ arrays in (
        ap (λ (y : Matching). y.size) is
            ∙ ap (λ (y : Tally). y.size) all
            ∙ search_is-L4 P μ k.inside,
        ap (λ (y : Matching). y.looks) is ∙ ap (λ (y : Tally). y.looks) all,
      ))
