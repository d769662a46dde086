-- The search's visits, by the columns that are not entered yet; and a search that may go deeper than there are columns makes the same visits.
-- Assumes nothing.
use mathlib.Core.Bool.{Bool, true, false, not}
use mathlib.Core.List.{List, [], ◌∷◌}
use mathlib.Core.Path.{◌≡◌, refl, sym, ◌∙◌, ap}
use Prim.Native.Nat.{ℕ, zero, suc, pred, ◌+◌, ◌≤◌, ◌<◌}
use native.Mathlib.Omega.{arith}
use lib.Dec.{eqb}
use borrow.Author.Tests.{eqb-true, eqb-false, not-true}
use mathlib.Core.Logic.{⊎_elim}
use native.Mathlib.Nat.{eq-zero-or-pos}
use Rattle.counting.specs.Sums.{count}
use Rattle.counting.proofs.Joined.{no_way, by_test, clash, fails}
use Rattle.counting.proofs.Counted.{count_mono, count_less}
use Rattle.model.specs.Pattern.{Pattern, Inside}
use Rattle.model.specs.Marking.{Marking}
use Rattle.model.specs.Matching.{Visited, Visit, looked, through, with_column, conflict_columns, hand_over, column_within}
use Rattle.model.proofs.Matching.Mates.{Matching, joined, joined-column_in}
use Rattle.model.proofs.Matching.Columns.{each, each_none, each_first, each-rest, each_more, conflict-joined}
use Rattle.model.proofs.Matching.Visits.{through-none, through-found, through-on, within_free, within_held, within-entered, column_same, column_stays}
use Rattle.model.proofs.Matching.Outcome.{RowPost, ColumnPost, row_as, column_as, row-looked, lost_none, lost_then, won_after}
use Rattle.model.proofs.Matching.Column.{column_before, column_free_post, column_held_post}

-- the columns not entered yet
unfoldable pub left : Pattern → (ℕ → Bool) → ℕ
left P entered = count (λ j. not (entered j)) P.n

-- no more are left when more are entered
left_fewer :
    (P : Pattern) (entered entered' : ℕ → Bool) →
    ((c : ℕ) → entered c ≡ true → entered' c ≡ true) → left P entered' ≤ left P entered
unfolding left
left_fewer P entered entered' grows =
    count_mono
    (λ c. not (entered' c))
    (λ c. not (entered c))
    P.n
    (λ c b e. ap not (fails (entered c) (λ f. clash (grows c f) (not-true (entered' c) e))))

-- one fewer when one is entered
left_less :
    (P : Pattern) (entered : ℕ → Bool) (j : ℕ) →
    j < P.n → entered j ≡ false → left P (with_column entered j) + 1 ≤ left P entered
unfolding left
left_less P entered j b e =
    count_less
    (λ c. not (with_column entered j c))
    (λ c. not (entered c))
    P.n
    j
    (λ c l h. ap not (fails (entered c) (λ f. clash (column_stays entered j c f) (not-true (with_column entered j c) h))))
    b
    (ap not (column_same entered j))
    (ap not e)

-- where none is left every column was entered
none_left : (P : Pattern) (entered : ℕ → Bool) (j : ℕ) → j < P.n → left P entered ≤ 0 → entered j ≡ true
none_left P entered j b h =
    by_test (entered j) (λ e. e) (λ e. no_way (omega (arith, left_less P entered j b e)))

-- the row of a column that is matched
pub matched-row : (x : ℕ) → (x ≡ 0 → ⊥) → x ≡ suc (pred x)
matched-row x z = ⊎_elim (λ q. absurd (z q)) (λ q. omega arith) (eq-zero-or-pos x)

module _ (P : Pattern) (μ : Marking) (inside : Inside P) where
  -- visits of columns are right while at most u columns are left
  abbrev Columns : Visit → ℕ → Type 0
  Columns visit u =
      (j i : ℕ) (entered : ℕ → Bool) (mate : ℕ → ℕ) →
      left P entered ≤ u → Matching P μ mate → joined P μ i j ≡ true →
      ColumnPost P μ j i entered mate (visit j i entered mate)

  -- a row over such visits
  pub through_post :
      (visit : Visit) (u : ℕ) → Columns visit u →
      (i : ℕ) (js : List ℕ) (entered : ℕ → Bool) (mate : ℕ → ℕ) →
      each (joined P μ i) js ≡ true → left P entered ≤ u → Matching P μ mate →
      RowPost P μ i js entered mate (through visit i js entered mate)
  through_post visit u right i [] entered mate join few M =
      row_as
      (through-none visit i entered mate)
      record { lost = λ f. lost_none; all = λ f. each_none entered; won = λ f. clash f refl }
  through_post visit u right i (j ∷ js) entered mate join few M =
      let v = visit j i entered mate in
      let post = right j i entered mate few M (each_first (joined P μ i) j js join) in
      by_test
      v.found
      (λ y. row_as
      (through-found visit i entered mate j js y)
      (row-looked 1 record { lost = λ f. clash y f; all = λ f. clash y f; won = λ f. post.won y }))
      (λ y. let l = post.lost y in
      let q =
      through_post
      visit
      u
      right
      i
      js
      v.entered
      mate
      (each-rest (joined P μ i) j js join)
      (omega (arith, left_fewer P entered v.entered l.grows))
      M in
      row_as
      (through-on visit i entered mate j js y
      ∙ ap (λ (m : ℕ → ℕ). looked (1 + v.looks) (through visit i js v.entered m)) l.same)
      (row-looked
      (1 + v.looks)
      record {
        lost = λ f. lost_then l (q.lost f);
        all = λ f. each_more _ j js ((q.lost f).grows j (post.here y)) (q.all f);
        won = λ f. won_after l (q.won f);
      }))

  -- a search that may go as deep as columns are left, or deeper
  pub columns_post : (u depth : ℕ) → u ≤ depth → Columns (column_within (conflict_columns P μ) depth) u
  columns_post zero depth h j i entered mate few M join =
      let e = none_left P entered j (joined-column_in P μ i j inside join) few in
      column_as
      (within-entered (conflict_columns P μ) depth j i entered mate e)
      (column_before P μ j i 0 entered mate e)
  columns_post (suc u) zero h j i entered mate few M join = no_way (omega arith)
  columns_post (suc u) (suc depth) h j i entered mate few M join =
      let b = joined-column_in P μ i j inside join in
      let columns = conflict_columns P μ in
      by_test
      (entered j)
      (λ e. column_as
      (within-entered columns (suc depth) j i entered mate e)
      (column_before P μ j i 0 entered mate e))
      (λ e. by_test
      (eqb (mate j) 0)
      (λ f. let z = eqb-true (mate j) 0 f in
      column_as
      (within_free columns depth j i entered mate e z)
      (column_free_post P μ j i entered mate M b join e 0 z))
      (λ f. let z = eqb-false (mate j) 0 f in
      let r = pred (mate j) in
      column_as
      (within_held columns depth j i entered mate e z)
      (column_held_post
      P
      μ
      j
      i
      entered
      mate
      M
      b
      join
      e
      r
      (matched-row (mate j) z)
      (through (column_within columns depth) r (columns r) (with_column entered j) mate)
      (through_post
      (column_within columns depth)
      u
      (columns_post u depth (omega arith))
      r
      (columns r)
      (with_column entered j)
      mate
      (conflict-joined P μ r)
      (omega (arith, left_less P entered j b e))
      M))))

  -- two visits agree while at most u columns are left
  abbrev Agree : Visit → Visit → ℕ → Type 0
  Agree v w u =
      (j i : ℕ) (entered : ℕ → Bool) (mate : ℕ → ℕ) →
      left P entered ≤ u → Matching P μ mate → joined P μ i j ≡ true → v j i entered mate ≡ w j i entered mate

  -- then so do the rows over them
  pub through_agree :
      (v w : Visit) (u : ℕ) → Columns v u → Agree v w u →
      (i : ℕ) (js : List ℕ) (entered : ℕ → Bool) (mate : ℕ → ℕ) →
      each (joined P μ i) js ≡ true → left P entered ≤ u → Matching P μ mate →
      through v i js entered mate ≡ through w i js entered mate
  through_agree v w u right agree i [] entered mate join few M =
      through-none v i entered mate ∙ sym (through-none w i entered mate)
  through_agree v w u right agree i (j ∷ js) entered mate join few M =
      let o = v j i entered mate in
      let first = each_first (joined P μ i) j js join in
      let same = agree j i entered mate few M first in
      let told : (w j i entered mate).found ≡ o.found = ap (λ (x : Visited). x.found) (sym same) in
      by_test
      o.found
      (λ f. through-found v i entered mate j js f
      ∙ ap (looked 1) same
      ∙ sym (through-found w i entered mate j js (told ∙ f)))
      (λ f. let l = (right j i entered mate few M first).lost f in
      through-on v i entered mate j js f
      ∙ ap (λ (m : ℕ → ℕ). looked (1 + o.looks) (through v i js o.entered m)) l.same
      ∙ ap
      (looked (1 + o.looks))
      (through_agree
      v
      w
      u
      right
      agree
      i
      js
      o.entered
      mate
      (each-rest (joined P μ i) j js join)
      (omega (arith, left_fewer P entered o.entered l.grows))
      M)
      ∙ ap (λ (m : ℕ → ℕ). looked (1 + o.looks) (through w i js o.entered m)) (sym l.same)
      ∙ ap (λ (x : Visited). looked (1 + x.looks) (through w i js x.entered x.mate)) same
      ∙ sym (through-on w i entered mate j js (told ∙ f)))

  -- and so do searches that may go as deep as columns are left, or deeper
  pub within_agree :
      (u f g : ℕ) → u ≤ f → u ≤ g →
      Agree (column_within (conflict_columns P μ) f) (column_within (conflict_columns P μ) g) u
  within_agree zero f g h k j i entered mate few M join =
      let e = none_left P entered j (joined-column_in P μ i j inside join) few in
      within-entered (conflict_columns P μ) f j i entered mate e
      ∙ sym (within-entered (conflict_columns P μ) g j i entered mate e)
  within_agree (suc u) zero g h k j i entered mate few M join = no_way (omega arith)
  within_agree (suc u) (suc f) zero h k j i entered mate few M join = no_way (omega arith)
  within_agree (suc u) (suc f) (suc g) h k j i entered mate few M join =
      let columns = conflict_columns P μ in
      by_test
      (entered j)
      (λ e. within-entered columns (suc f) j i entered mate e
      ∙ sym (within-entered columns (suc g) j i entered mate e))
      (λ e. by_test
      (eqb (mate j) 0)
      (λ y. let z = eqb-true (mate j) 0 y in
      within_free columns f j i entered mate e z ∙ sym (within_free columns g j i entered mate e z))
      (λ y. let z = eqb-false (mate j) 0 y in
      let r = pred (mate j) in
      within_held columns f j i entered mate e z
      ∙ ap
      (hand_over j i)
      (through_agree
      (column_within columns f)
      (column_within columns g)
      u
      (columns_post u f (omega arith))
      (within_agree u f g (omega arith) (omega arith))
      r
      (columns r)
      (with_column entered j)
      mate
      (conflict-joined P μ r)
      (omega (arith, left_less P entered j (joined-column_in P μ i j inside join) e))
      M)
      ∙ sym (within_held columns g j i entered mate e z)))
