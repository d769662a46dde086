-- Laws of the strike-out: where it stops, its first line, the weights from one down, and weights that no line has.
-- Assumes nothing.
use mathlib.Core.List.{List, [], ◌∷◌, ◌++◌, append-nil}
use mathlib.Core.Path.{◌≡◌, refl, sym, ◌∙◌, ap}
use mathlib.Core.Logic.{⊎_elim}
use Prim.Native.Nat.{ℕ, zero, suc, ◌+◌, ◌-◌, ◌≤◌, ◌<◌}
use native.Mathlib.Nat.{eq-or-lt_of_le, le_of_suc-le-suc}
use native.Mathlib.Omega.{arith}
use lib.Dec.{leb}
use lib.ListN.{replicate}
use borrow.Author.Tests.{le-leb, lt-leb, leb-true, leb-false}
use Rattle.counting.proofs.Joined.{by_test, pick_true, pick-false}
use Rattle.model.specs.Bound.{falling, strikes}

-- where s is within the room nothing is struck
pub strikes-stop : (xs : List ℕ) (s room : ℕ) → s ≤ room → strikes xs s room ≡ 0
unfolding strikes
strikes-stop [] s room h = refl
strikes-stop (x ∷ xs) s room h = pick_true 0 (suc (strikes xs (s - x) room)) (le-leb s room h)

-- where s is above the room the first is struck
pub strikes-first : (x : ℕ) (xs : List ℕ) (s room : ℕ) → room < s → strikes (x ∷ xs) s room ≡ suc (strikes xs (s - x) room)
unfolding strikes
strikes-first x xs s room h = pick-false 0 (suc (strikes xs (s - x) room)) (lt-leb s room h)

-- the weights below k, most first
unfoldable pub falling_below : (ℕ → ℕ) → ℕ → List ℕ
falling_below h zero = []
falling_below h (suc k) = replicate (h k) k ++ falling_below h k

falling_below_lem : (h : ℕ → ℕ) (n : ℕ) → falling h n ≡ falling_below h (suc n)
unfolding falling falling_below
falling_below_lem h zero = sym (append-nil (replicate (h 0) 0))
falling_below_lem h (suc n) = ap (λ (zs : List ℕ). replicate (h (suc n)) (suc n) ++ zs) (falling_below_lem h n)

-- from a weight down: the start
pub down_start : (h : ℕ → ℕ) (top s room : ℕ) → strikes (falling h top) s room ≡ strikes (falling_below h (top + 1)) s room
down_start h top s room =
    let e : suc top ≡ top + 1 = omega arith in
    ap (λ (zs : List ℕ). strikes zs s room) (falling_below_lem h top ∙ ap (falling_below h) e)

-- weights that no line has add nothing
falling_top :
    (h : ℕ → ℕ) (top n : ℕ) → top ≤ n → ((x : ℕ) → top < x → x ≤ n → h x ≡ 0) → falling h n ≡ falling h top
unfolding falling
falling_top h top zero b e =
    let q : 0 ≡ top = omega arith in
    ap (falling h) q
falling_top h top (suc n) b e =
    ⊎_elim
    (λ q. ap (falling h) (sym q))
    (λ l. ap (λ (k : ℕ). replicate k (suc n) ++ falling h n) (e (suc n) l (omega arith))
    ∙ falling_top h top n (le_of_suc-le-suc l) (λ x c d. e x c (omega arith)))
    (eq-or-lt_of_le b)

-- weights above both of two tops that no line has: either top will do
pub falling_either :
    (h : ℕ → ℕ) (a b : ℕ) → ((x : ℕ) → a < x → h x ≡ 0) → ((x : ℕ) → b < x → h x ≡ 0) → falling h a ≡ falling h b
falling_either h a b above below =
    by_test
    (leb a b)
    (λ e. sym (falling_top h a b (leb-true a b e) (λ x c d. above x c)))
    (λ e. let l : b < a = leb-false a b e in falling_top h b a (omega arith) (λ x c d. below x c))
