-- The checks of sizes, of a nonzero and of a list, as the code makes them.
-- Assumes nothing.
use mathlib.Core.Bool.{Bool, true, false}
use mathlib.Core.List.{List}
use mathlib.Core.Path.{◌≡◌, refl, sym, ◌∙◌, ap}
use Prim.Native.Nat.{ℕ, zero, suc, ◌+◌, ◌-◌, ◌*◌, ◌≤◌, ◌<◌}
use native.Mathlib.Omega.{arith}
use lib.Dec.{ltb, leb, eqb}
use lib.ListN.{get_or}
use borrow.Author.Tests.{lt-ltb, le-ltb, le-leb, lt-leb, eq-eqb, ne_eqb}
use Rattle.counting.specs.Tests.{◌and◌, ◌or◌}
use Rattle.counting.proofs.Joined.{and_fails_left, or_left, or_passed, or_fails}
use Rattle.model.specs.declared.Word.TheVariants.{TooBig, Cap, NoSplit}
use Rattle.model.specs.declared.Caps.{Caps}
use Rattle.model.specs.Limits.{line_limit, nonzero_limit}
use Rattle.model.specs.Refusal.{accepted, refused, refuse, ◌then◌}
use Rattle.model.specs.Pattern.{row_place, column_place, high_in, row_in, column_in}
use Rattle.model.specs.Split.{caps_outside}
use Rattle.model.specs.Calls.{outside, sizes_verdict, rises, split_number, off_matrix}
use Rattle.model.proofs.Theorems.Checks.{refuse_so, refuse_no, refuse_either, then_accepted}
use Rattle.pattern.specs.Checks.{caps_verdict}

-- the checks of the sizes, one after another
pub sizes_each :
    (m n nonzeros : ℕ) →
    sizes_verdict m n nonzeros
    ≡ refuse (outside line_limit m) TooBig 0
    then refuse (outside line_limit n) TooBig 0
    then refuse (ltb nonzero_limit nonzeros) TooBig 0
    then refuse (ltb (m * n) nonzeros) TooBig 0
unfolding sizes_verdict
sizes_each m n nonzeros =
    refuse_either _ _ TooBig 0
    ∙ ap (λ v. v then refuse (ltb (m * n) nonzeros) TooBig 0) (refuse_either _ _ TooBig 0
    ∙ ap (λ v. v then refuse (ltb nonzero_limit nonzeros) TooBig 0) (refuse_either _ _ TooBig 0))

-- the first nonzero comes after none
pub rises-first : (list : List ℕ) (t : ℕ) → t ≡ 0 → rises list t ≡ true
unfolding rises
rises-first list t e = rw e

-- the test of a nonzero and the one before it
unfoldable later : List ℕ → ℕ → ℕ → Bool
later list s t =
    ltb (row_in list s) (row_in list t)
    or (eqb (row_in list s) (row_in list t) and ltb (column_in list s) (column_in list t))

rises-later : (list : List ℕ) (t : ℕ) → (t ≡ 0 → ⊥) → rises list t ≡ later list (t - 1) t
unfolding rises later
rises-later list zero h = absurd (h refl)
rises-later list (suc t) h =
    let e : suc t - 1 ≡ t = omega arith in
    ap (λ s. later list s (suc t)) (sym e)

-- the row before is smaller
pub rises-by-row :
    (list : List ℕ) (t a b : ℕ) → (t ≡ 0 → ⊥) → a ≡ row_in list (t - 1) → b ≡ row_in list t →
    a < b → rises list t ≡ true
unfolding later
rises-by-row list t a b h e f l =
    rises-later list t h ∙ or_left _ (lt-ltb (row_in list (t - 1)) (row_in list t) (omega arith))

-- the row before is the same: the columns tell
pub rises-by_column :
    (list : List ℕ) (t a b x y : ℕ) → (t ≡ 0 → ⊥) → a ≡ row_in list (t - 1) → b ≡ row_in list t →
    a ≡ b → x ≡ column_in list (t - 1) → y ≡ column_in list t → rises list t ≡ ltb x y
unfolding later ◌or◌ ◌and◌
rises-by_column list t a b x y h e f q u w =
    let same : row_in list (t - 1) ≡ row_in list t = omega arith in
    let below = le-ltb (row_in list (t - 1)) (row_in list t) (omega arith) in
    rises-later list t h ∙ rw (below, eq-eqb (row_in list (t - 1)) (row_in list t) same, u, w)

-- the row before is larger
pub rises-not :
    (list : List ℕ) (t a b : ℕ) → (t ≡ 0 → ⊥) → a ≡ row_in list (t - 1) → b ≡ row_in list t →
    b ≤ a → (a ≡ b → ⊥) → rises list t ≡ false
unfolding later
rises-not list t a b h e f l q =
    rises-later list t h
    ∙ or_fails
    (le-ltb (row_in list (t - 1)) (row_in list t) (omega arith))
    (and_fails_left _ (ne_eqb (row_in list (t - 1)) (row_in list t) (λ z. q (e ∙ z ∙ sym f))))

module _ (list : List ℕ) (t at : ℕ) (here : at ≡ row_place t) where
  -- the row's high byte tells
  pub split-by-row : (a : ℕ) → a ≡ get_or list (at + 1) 0 → 1 < a → ltb 1 a ≡ split_number list t
  unfolding split_number high_in
  split-by-row a e l =
      lt-ltb 1 a l
      ∙ sym (or_left _ (ap (λ (i : ℕ). ltb 1 (get_or list (i + 1) 0)) (sym here) ∙ ap (ltb 1) (sym e) ∙ lt-ltb 1 a l))

  -- it is in order, so the column's tells
  pub split-by_column :
      (a b : ℕ) → a ≡ get_or list (at + 1) 0 → a ≤ 1 → b ≡ get_or list (at + 3) 0 → ltb 1 b ≡ split_number list t
  unfolding split_number high_in
  split-by_column a b e l f =
      let there : at + 3 ≡ column_place t + 1 = omega (arith, here) in
      ap (ltb 1) (f ∙ ap (λ (i : ℕ). get_or list i 0) there)
      ∙ sym (or_passed _ (ap (λ (i : ℕ). ltb 1 (get_or list (i + 1) 0)) (sym here) ∙ ap (ltb 1) (sym e) ∙ le-ltb 1 a l))

module _ (m n : ℕ) (list : List ℕ) (t : ℕ) where
  -- the row tells
  pub off_by-row : (a : ℕ) → a ≡ row_in list t → m ≤ a → leb m a ≡ off_matrix m n list t
  unfolding off_matrix
  off_by-row a e l =
      le-leb m a l ∙ sym (or_left _ (le-leb m (row_in list t) (omega arith)))

  -- the row is inside, so the column tells
  pub off_by_column :
      (a b : ℕ) → a ≡ row_in list t → a < m → b ≡ column_in list t → leb n b ≡ off_matrix m n list t
  unfolding off_matrix ◌or◌
  off_by_column a b e l f = rw (lt-leb m (row_in list t) (omega arith), f)

-- caps in range that together are below N
pub caps_short : (nonzeros : ℕ) (caps : Caps) → caps_outside caps ≡ false → caps.cap0 + caps.cap1 < nonzeros → refused NoSplit 0 ≡ caps_verdict nonzeros caps
unfolding caps_verdict
caps_short nonzeros caps fine short = sym (then_accepted _ (refuse_no Cap 0 fine) ∙ refuse_so NoSplit 0 (lt-ltb _ _ short))

-- caps in range that together are at least N
pub caps_enough : (nonzeros : ℕ) (caps : Caps) → caps_outside caps ≡ false → nonzeros ≤ caps.cap0 + caps.cap1 → accepted ≡ caps_verdict nonzeros caps
unfolding caps_verdict
caps_enough nonzeros caps fine enough = sym (then_accepted _ (refuse_no Cap 0 fine) ∙ refuse_no NoSplit 0 (le-ltb _ _ enough))
