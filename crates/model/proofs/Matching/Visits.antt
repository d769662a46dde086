-- The steps of the search, case by case.
-- Assumes nothing.
use mathlib.Core.Bool.{Bool, true, false}
use mathlib.Core.List.{List, [], ◌∷◌}
use mathlib.Core.Path.{◌≡◌, refl, ◌∙◌, ap}
use Prim.Native.Nat.{ℕ, zero, suc, pred, ◌+◌}
use native.Mathlib.Omega.{arith}
use lib.Dec.{eqb}
use borrow.Author.Tests.{eqb-true, eq-eqb, ne_eqb}
use Rattle.counting.specs.Tests.{pick}
use Rattle.counting.proofs.Joined.{clash, or_left, or_right, or_cases, pick_true, pick-false}
use mathlib.Core.Logic.{⊎_elim}
use Rattle.model.specs.Matching.{Visited, visited, Visit, looked, else_go, through, with_column, with_mate, hand_over, column_step, column_within, start_from}

-- looks made before and before that
pub looked_twice : (x y : ℕ) (o : Visited) → looked x (looked y o) ≡ looked (x + y) o
unfolding looked
looked_twice x y o =
    let e : x + (y + o.looks) ≡ x + y + o.looks = omega arith in
    ap (λ (l : ℕ). visited o.found l o.entered o.mate) e

-- no look was made before
pub looked-none : (o : Visited) → o ≡ looked 0 o
unfolding looked
looked-none o =
    let e : o.looks ≡ 0 + o.looks = omega arith in
    ap (λ (l : ℕ). visited o.found l o.entered o.mate) e

-- row i goes through columns
module _ (visit : Visit) (i : ℕ) (entered : ℕ → Bool) (mate : ℕ → ℕ) where
  -- none is left
  pub through-none : through visit i [] entered mate ≡ visited false 0 entered mate
  unfolding through
  through-none = refl

  -- the visit of the next one ends the start
  pub through-found :
      (j : ℕ) (js : List ℕ) → (visit j i entered mate).found ≡ true →
      through visit i (j ∷ js) entered mate ≡ looked 1 (visit j i entered mate)
  unfolding through else_go
  through-found j js f = ap (looked 1) (pick_true _ _ f)

  -- or it does not
  pub through-on :
      (j : ℕ) (js : List ℕ) → (visit j i entered mate).found ≡ false →
      through visit i (j ∷ js) entered mate
      ≡ looked
      (1 + (visit j i entered mate).looks)
      (through visit i js (visit j i entered mate).entered (visit j i entered mate).mate)
  unfolding through else_go
  through-on j js f = ap (looked 1) (pick-false _ _ f) ∙ looked_twice 1 (visit j i entered mate).looks _

-- column j is visited for row i
module _ (columns : ℕ → List ℕ) (depth j i : ℕ) (entered : ℕ → Bool) (mate : ℕ → ℕ) where
  -- it was not entered before, and is unmatched
  pub within_free :
      entered j ≡ false → mate j ≡ 0 →
      column_within columns (suc depth) j i entered mate ≡ visited true 0 (with_column entered j) (with_mate mate j (suc i))
  unfolding column_within column_step
  within_free e f = pick-false _ _ e ∙ pick_true _ _ (eq-eqb (mate j) 0 f)

  -- it was not entered before, and is matched
  pub within_held :
      entered j ≡ false → (mate j ≡ 0 → ⊥) →
      column_within columns (suc depth) j i entered mate
      ≡ hand_over
      j
      i
      (through
      (column_within columns depth)
      (pred (mate j))
      (columns (pred (mate j)))
      (with_column entered j)
      mate)
  unfolding column_within column_step
  within_held e f = pick-false _ _ e ∙ pick-false _ _ (ne_eqb (mate j) 0 f)

-- it was entered before
pub within-entered :
    (columns : ℕ → List ℕ) (depth j i : ℕ) (entered : ℕ → Bool) (mate : ℕ → ℕ) →
    entered j ≡ true → column_within columns depth j i entered mate ≡ visited false 0 entered mate
unfolding column_within column_step
within-entered columns zero j i entered mate e = refl
within-entered columns (suc depth) j i entered mate e = pick_true _ _ e

-- a start from a row without conflicts makes no look and changes nothing
pub start-without :
    (columns : ℕ → List ℕ) (depth i : ℕ) (mate : ℕ → ℕ) → columns i ≡ [] →
    start_from columns depth i mate ≡ visited false 0 (λ j. false) mate
unfolding start_from
start-without columns depth i mate e =
    ap (λ (js : List ℕ). through (column_within columns depth) i js (λ j. false) mate) e
    ∙ through-none (column_within columns depth) i (λ j. false) mate

-- the column's row found another
pub hand_found :
    (j i : ℕ) (o : Visited) → o.found ≡ true →
    hand_over j i o ≡ visited true o.looks o.entered (with_mate o.mate j (suc i))
unfolding hand_over
hand_found j i o e =
    ap (λ (b : Bool). visited b o.looks o.entered (pick b (with_mate o.mate j (suc i)) o.mate)) e
    ∙ ap (visited true o.looks o.entered) (pick_true _ _ refl)

-- or it did not
pub hand_not :
    (j i : ℕ) (o : Visited) → o.found ≡ false →
    hand_over j i o ≡ visited false o.looks o.entered o.mate
unfolding hand_over
hand_not j i o e =
    ap (λ (b : Bool). visited b o.looks o.entered (pick b (with_mate o.mate j (suc i)) o.mate)) e
    ∙ ap (visited false o.looks o.entered) (pick-false _ _ refl)

-- which columns are entered once column j is
module _ (entered : ℕ → Bool) (j : ℕ) where
  pub column_same : with_column entered j j ≡ true
  unfolding with_column
  column_same = or_left (entered j) (eq-eqb j j refl)

  pub column_stays : (c : ℕ) → entered c ≡ true → with_column entered j c ≡ true
  unfolding with_column
  column_stays c e = or_right (eqb c j) e

  pub column_only : (c : ℕ) → entered c ≡ false → with_column entered j c ≡ true → c ≡ j
  unfolding with_column
  column_only c e f = ⊎_elim (λ h. eqb-true c j h) (λ h. clash h e) (or_cases (eqb c j) (entered c) f)

  -- a column that was entered is not one that was not
  pub column_apart : (c : ℕ) → entered c ≡ true → entered j ≡ false → c ≡ j → ⊥
  column_apart c e f q = clash e (ap entered q ∙ f)
