-- What a visit leaves behind, where it fails and where it ends at an unmatched column.
-- Assumes nothing.
use mathlib.Core.Bool.{Bool, true, false}
use mathlib.Core.List.{List}
use mathlib.Core.Path.{◌≡◌, refl, sym, ◌∙◌, ap, subst}
use mathlib.Core.Logic.{◌⊎◌, inl, inr, ⊎_elim}
use Prim.Native.Nat.{ℕ, suc, ◌+◌, ◌≤◌, ◌<◌}
use native.Mathlib.Omega.{arith}
use lib.Dec.{leb}
use borrow.Author.Tests.{leb-true, le-leb}
use Rattle.counting.specs.Tests.{◌or◌}
use Rattle.counting.proofs.Joined.{no_way, by_test, clash, fails, or_left, or_right, or_cases}
use Rattle.model.specs.Pattern.{Pattern}
use Rattle.model.specs.Marking.{Marking}
use Rattle.model.specs.Matching.{Visited, looked, with_mate}
use Rattle.model.proofs.Matching.Mates.{Matching, joined, matched}
use Rattle.model.proofs.Matching.Columns.{each}

-- column c is matched, and every column joined to its row is entered
pub record Closed (P : Pattern) (μ : Marking) (mate : ℕ → ℕ) (entered : ℕ → Bool) (c : ℕ) : Type 0 where
  pub row : ℕ
  pub holds : mate c ≡ suc row
  pub onward : (d : ℕ) → joined P μ row d ≡ true → entered d ≡ true

-- a visit that failed: the mates are unchanged, columns entered stay so, and each newly entered one is closed
pub record Lost (P : Pattern) (μ : Marking) (entered : ℕ → Bool) (mate : ℕ → ℕ) (entered' : ℕ → Bool) (mate' : ℕ → ℕ) : Type 0 where
  pub same : mate' ≡ mate
  pub grows : (c : ℕ) → entered c ≡ true → entered' c ≡ true
  pub new : (c : ℕ) → entered c ≡ false → entered' c ≡ true → Closed P μ mate entered' c

-- where a row comes from: it is row i, or its column had it, or a column had it that was not entered
abbrev pub From : Pattern → ℕ → (ℕ → Bool) → (ℕ → ℕ) → ℕ → ℕ → Type 0
From P i entered mate c q =
    (q ≡ i)
    ⊎ ((mate c ≡ suc q) ⊎ ((d : ℕ) × (d < P.n) × (entered d ≡ false) × (mate d ≡ suc q)))

-- column j is not one that can be entered: it was entered before, or lies outside
unfoldable pub shut : Pattern → (ℕ → Bool) → ℕ → Bool
shut P entered j = leb P.n j or entered j

-- a visit for row i that succeeded: columns entered before keep their mates, and one more column is matched.
-- Where row i had at most column j, and that cannot be entered, the mates but column j's are a matching
pub record Won (P : Pattern) (μ : Marking) (i : ℕ) (entered : ℕ → Bool) (mate mate' : ℕ → ℕ) : Type 0 where
  pub kept : (c : ℕ) → entered c ≡ true → mate' c ≡ mate c
  pub from : (c q : ℕ) → c < P.n → mate' c ≡ suc q → From P i entered mate c q
  pub more : matched P mate' ≡ matched P mate + 1
  pub fits :
      (j : ℕ) → shut P entered j ≡ true → ((c : ℕ) → c < P.n → mate c ≡ suc i → c ≡ j) →
      Matching P μ (with_mate mate' j 0)

-- row i has gone through columns
pub record RowPost (P : Pattern) (μ : Marking) (i : ℕ) (js : List ℕ) (entered : ℕ → Bool) (mate : ℕ → ℕ) (o : Visited) : Type 0 where
  pub lost : o.found ≡ false → Lost P μ entered mate o.entered o.mate
  pub all : o.found ≡ false → each o.entered js ≡ true
  pub won : o.found ≡ true → Won P μ i entered mate o.mate

-- the visit of column j for row i
pub record ColumnPost (P : Pattern) (μ : Marking) (j i : ℕ) (entered : ℕ → Bool) (mate : ℕ → ℕ) (o : Visited) : Type 0 where
  pub lost : o.found ≡ false → Lost P μ entered mate o.entered o.mate
  pub here : o.found ≡ false → o.entered j ≡ true
  pub won : o.found ≡ true → Won P μ i entered mate o.mate

-- columns that cannot be entered
module _ (P : Pattern) (entered : ℕ → Bool) where
  -- a column that cannot be entered is not one that can
  pub shut_apart : (k d : ℕ) → shut P entered k ≡ true → d < P.n → entered d ≡ false → k ≡ d → ⊥
  unfolding shut
  shut_apart k d e b f q =
      ⊎_elim
      (λ h. no_way (omega (arith, leb-true P.n k h)))
      (λ h. clash h (ap entered q ∙ f))
      (or_cases (leb P.n k) (entered k) e)

  pub shut-entered : (k : ℕ) → entered k ≡ true → shut P entered k ≡ true
  unfolding shut
  shut-entered k e = or_right (leb P.n k) e

  pub shut-outside : (k : ℕ) → P.n ≤ k → shut P entered k ≡ true
  unfolding shut
  shut-outside k b = or_left (entered k) (le-leb P.n k b)

  pub shut_grows :
      (entered' : ℕ → Bool) (k : ℕ) → ((c : ℕ) → entered c ≡ true → entered' c ≡ true) →
      shut P entered k ≡ true → shut P entered' k ≡ true
  unfolding shut
  shut_grows entered' k grows e =
      ⊎_elim
      (λ h. or_left (entered' k) h)
      (λ h. or_right (leb P.n k) (grows k h))
      (or_cases (leb P.n k) (entered k) e)

module _ {P : Pattern} {μ : Marking} {entered : ℕ → Bool} {mate : ℕ → ℕ} where
  -- a post of one outcome is one of an equal outcome
  pub row_as :
      {i : ℕ} {js : List ℕ} {o p : Visited} →
      o ≡ p → RowPost P μ i js entered mate p → RowPost P μ i js entered mate o
  row_as {i} {js} e k = subst (λ (x : Visited). RowPost P μ i js entered mate x) (sym e) k

  pub column_as :
      {j i : ℕ} {o p : Visited} → o ≡ p → ColumnPost P μ j i entered mate p → ColumnPost P μ j i entered mate o
  column_as {j} {i} e k = subst (λ (x : Visited). ColumnPost P μ j i entered mate x) (sym e) k

  -- looks made before change nothing of it
  pub row-looked :
      {i : ℕ} {js : List ℕ} (x : ℕ) {o : Visited} →
      RowPost P μ i js entered mate o → RowPost P μ i js entered mate (looked x o)
  unfolding looked
  row-looked x k = record { lost = k.lost; all = k.all; won = k.won }

  -- nothing was done
  pub lost_none : Lost P μ entered mate entered mate
  lost_none = record { same = refl; grows = λ c e. e; new = λ c e f. clash f e }

  -- one visit failed and then another
  pub lost_then :
      {entered₁ entered₂ : ℕ → Bool} {mate₁ mate₂ : ℕ → ℕ} →
      Lost P μ entered mate entered₁ mate₁ → Lost P μ entered₁ mate entered₂ mate₂ →
      Lost P μ entered mate entered₂ mate₂
  lost_then {entered₁} {entered₂} a b =
      record {
        same = b.same;
        grows = λ c e. b.grows c (a.grows c e);
        new = λ c e f. by_test
            (entered₁ c)
            (λ g. let k = a.new c e g in
            record { row = k.row; holds = k.holds; onward = λ d h. b.grows d (k.onward d h) })
            (λ g. b.new c g f);
      }

  -- a visit failed and then another succeeded
  pub won_after :
      {i : ℕ} {entered₁ : ℕ → Bool} {mate₁ mate₂ : ℕ → ℕ} →
      Lost P μ entered mate entered₁ mate₁ → Won P μ i entered₁ mate mate₂ → Won P μ i entered mate mate₂
  won_after {i} {entered₁} a w =
      record {
        kept = λ c e. w.kept c (a.grows c e);
        from = λ c q b e. ⊎_elim
            (λ x. inl x)
            (λ x. ⊎_elim
            (λ y. inr (inl y))
            (λ y. inr (inr (y.0, y.1, fails (entered y.0) (λ g. clash (a.grows y.0 g) y.2), y.3)))
            x)
            (w.from c q b e);
        more = w.more;
        fits = λ j e only. w.fits j (shut_grows P entered entered₁ j a.grows e) only;
      }
