-- Laws of lists that are read and written by place.
-- Assumes nothing.
use mathlib.Core.List.{List, [], ◌∷◌}
use mathlib.Core.Path.{◌≡◌, refl, sym, ◌∙◌, ap}
use Prim.Native.Nat.{ℕ, zero, suc, ◌<◌}
use native.Mathlib.Omega.{arith}
use lib.Dec.{eqb}
use lib.ListN.{length, get_or, set}
use lib.Seq.{get_or-set_same, get_or-set_other}
use borrow.Author.Tests.{eqb-true, eqb-false}
use Rattle.counting.specs.Tests.{pick}
use Rattle.counting.proofs.Joined.{no_way, by_test, pick_true, pick-false}

-- within a list the default does not matter
pub get_d_any : (xs : List ℕ) (i a b : ℕ) → i < length xs → get_or xs i a ≡ get_or xs i b
get_d_any [] i a b h = no_way (omega arith)
get_d_any (x ∷ xs) zero a b h = refl
get_d_any (x ∷ xs) (suc i) a b h = get_d_any xs i a b (omega arith)

-- a place of a list after a store
pub set-pick :
    (xs : List ℕ) (i l v : ℕ) → l < length xs →
    get_or (set xs i v) l 0 ≡ pick (eqb l i) v (get_or xs l 0)
set-pick xs i l v b =
    by_test
    (eqb l i)
    (λ e. let q : l ≡ i = eqb-true l i e in
    let c : i < length xs = omega arith in
    ap (λ (k : ℕ). get_or (set xs i v) k 0) q ∙ get_or-set_same xs i v 0 c ∙ sym (pick_true v (get_or xs l 0) e))
    (λ e. get_or-set_other xs i l v 0 (eqb-false l i e) ∙ sym (pick-false v (get_or xs l 0) e))
