-- How many markings are left to try: each try uses up at least one of them.
-- Assumes nothing.
use mathlib.Core.Bool.{Bool, true, false}
use mathlib.Core.List.{List, [], ◌∷◌}
use mathlib.Core.Path.{◌≡◌, refl, ap}
use Prim.Native.Nat.{ℕ, zero, suc, ◌+◌, ◌*◌, ◌-◌, ◌/◌, ◌^◌, ◌≤◌, ◌<◌}
use native.Mathlib.Omega.{arith}
use native.Mathlib.Numerals.{add-one}
use native.Mathlib.Nat.{pow-suc}
use lib.ListN.{length}
use Rattle.counting.specs.Tests.{pick}
use Rattle.model.specs.Walk.{one_allowed, after_zero, advance, is_empty}
use Rattle.counting.proofs.Joined.{clash}

-- the markings that one marking begins, itself included, with room for so many marks from its last one on: each has at most three with one mark more
unfoldable pub size : ℕ → ℕ
size zero = 0
size (suc levels) = 1 + 3 * size levels

-- the markings of at most k marks that come later than a trail: for each mark, those with this mark put later
unfoldable pub later : ℕ → List ℕ → ℕ
later k [] = 0
later k (x ∷ xs) = (2 - x) * size (k - length xs) + later k xs

-- the markings left to try: those that the trail begins, and the later ones
unfoldable pub left : ℕ → List ℕ → ℕ
left k [] = 0
left k (x ∷ xs) = size (k - length xs) + later k (x ∷ xs)

-- a power of 3 by size
pub power : (k : ℕ) → 3 ^ k ≡ 1 + 2 * size k
unfolding size
power zero = refl
power (suc k) = let p = power k in omega (arith, pow-suc 3 k)

-- three times a size
pub three_sizes : (k : ℕ) → 3 * size k ≡ (3 ^ (k + 1) - 3) / 2
three_sizes k = rw (add-one, pow-suc, power k) (omega arith)

-- to advance uses up the markings that the trail begins
pub advance-left : (first : Bool) (k : ℕ) (τ : List ℕ) → left k (advance first τ) ≤ later k τ
unfolding advance left later after_zero pick
advance-left first k [] = omega arith
advance-left first k (zero ∷ τ) = go (one_allowed first τ)
  where
    go : (b : Bool) → left k (pick b 1 2 ∷ τ) ≤ later k (0 ∷ τ)
    go true = omega arith
    go false = omega arith
advance-left first k (suc zero ∷ τ) = omega arith
advance-left first k (suc (suc x) ∷ τ) = let l = advance-left first k τ in omega arith

-- a trail does not grow when it advances
pub advance-length : (first : Bool) (τ : List ℕ) → length (advance first τ) ≤ length τ
unfolding advance
advance-length first [] = omega arith
advance-length first (zero ∷ τ) = omega arith
advance-length first (suc zero ∷ τ) = omega arith
advance-length first (suc (suc x) ∷ τ) = let l = advance-length first τ in omega arith

-- to give up a trail uses up at least one marking
pub gives_up_left : (first : Bool) (k : ℕ) (τ : List ℕ) → is_empty τ ≡ false → length τ ≤ k → left k (advance first τ) + 1 ≤ left k τ
unfolding is_empty left size
gives_up_left first k [] some_marks within = clash refl some_marks
gives_up_left first k (x ∷ τ) some_marks within =
    let level : k - length τ ≡ suc (k - suc (length τ)) = omega arith in
    omega (arith, ap size level, advance-left first k (x ∷ τ))

-- to let a trail grow uses up one marking
pub grows_left : (k : ℕ) (τ : List ℕ) → is_empty τ ≡ false → length τ < k → left k (0 ∷ τ) + 1 ≤ left k τ
unfolding is_empty left later size
grows_left k [] some_marks room = clash refl some_marks
grows_left k (x ∷ τ) some_marks room =
    let level : k - length τ ≡ suc (k - suc (length τ)) = omega arith in
    omega (arith, ap size level)

-- a trail with marks leaves at least one marking to try
pub some_left : (first : Bool) (k : ℕ) (τ : List ℕ) → is_empty τ ≡ false → length τ ≤ k → 1 ≤ left k τ
some_left first k τ some_marks within = omega (arith, gives_up_left first k τ some_marks within)
