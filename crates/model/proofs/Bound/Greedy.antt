-- The greedy choice: striking the greatest counts first strikes no more counts than any other way to bring s down to the room.
-- Assumes nothing.
use mathlib.Core.List.{List, [], ◌∷◌, ◌++◌}
use mathlib.Core.Path.{◌≡◌, ap}
use Prim.Native.Nat.{ℕ, zero, suc, ◌+◌, ◌*◌, ◌-◌, ◌≤◌, max}
use native.Mathlib.Omega.{arith}
use lib.Dec.{leb}
use lib.ListN.{replicate}
use borrow.Author.Tests.{leb-false}
use Rattle.counting.specs.Sums.{sum}
use Rattle.counting.proofs.Joined.{no_way, by_test, pick_true, pick-false}
use Rattle.model.specs.Bound.{falling, strikes}

-- the sum of the first c numbers of a list
unfoldable pub first_sum : ℕ → List ℕ → ℕ
first_sum zero xs = 0
first_sum (suc c) [] = 0
first_sum (suc c) (x ∷ xs) = x + first_sum c xs

-- the greatest number of a list, or 0
unfoldable pub greatest : List ℕ → ℕ
greatest [] = 0
greatest (x ∷ xs) = max x (greatest xs)

-- c counts that bring s down to the room suffice
pub strikes_least :
    (xs : List ℕ) (c s room : ℕ) → s ≤ room + first_sum c xs → strikes xs s room ≤ c
unfolding strikes first_sum
strikes_least [] c s room h = omega arith
strikes_least (x ∷ xs) zero s room h =
    by_test
    (leb s room)
    (λ e. omega (arith, pick_true 0 (suc (strikes xs (s - x) room)) e))
    (λ e. no_way (omega (arith, leb-false s room e)))
strikes_least (x ∷ xs) (suc c) s room h =
    by_test
    (leb s room)
    (λ e. omega (arith, pick_true 0 (suc (strikes xs (s - x) room)) e))
    (λ e. omega (
      arith,
      pick-false 0 (suc (strikes xs (s - x) room)) e,
      strikes_least xs c (s - x) room (omega arith),
    ))

-- one number more adds at most the greatest
first_more : (c v : ℕ) (xs : List ℕ) → greatest xs ≤ v → first_sum (suc c) xs ≤ v + first_sum c xs
unfolding first_sum greatest
first_more zero v [] h = omega arith
first_more zero v (x ∷ xs) h = omega arith
first_more (suc c) v [] h = omega arith
first_more (suc c) v (x ∷ xs) h = omega (arith, first_more c v xs (omega arith))

-- a number put in front that is at least the greatest lowers no sum
first_cons : (c v : ℕ) (xs : List ℕ) → greatest xs ≤ v → first_sum c xs ≤ first_sum c (v ∷ xs)
unfolding first_sum
first_cons zero v xs h = omega arith
first_cons (suc c) v xs h = first_more c v xs h

-- numbers put in front of smaller ones
greatest-front : (b v : ℕ) (xs : List ℕ) → greatest xs ≤ v → greatest (replicate b v ++ xs) ≤ v
unfolding greatest
greatest-front zero v xs h = h
greatest-front (suc b) v xs h = omega (arith, greatest-front b v xs h)

-- equal numbers
greatest_same : (b v : ℕ) → greatest (replicate b v) ≤ v
unfolding greatest
greatest_same zero v = omega arith
greatest_same (suc b) v = omega (arith, greatest_same b v)

-- no number of the falling list is above its start
greatest-falling : (h : ℕ → ℕ) (n : ℕ) → greatest (falling h n) ≤ n
unfolding falling
greatest-falling h zero = greatest_same (h 0) 0
greatest-falling h (suc n) =
    greatest-front (h (suc n)) (suc n) (falling h n) (omega (arith, greatest-falling h n))

-- a of the b greatest numbers, and the first k of the rest
first-front :
    (a b k v : ℕ) (xs : List ℕ) →
    a ≤ b → greatest xs ≤ v → a * v + first_sum k xs ≤ first_sum (a + k) (replicate b v ++ xs)
unfolding first_sum
first-front zero zero k v xs h g =
    let e : 0 + k ≡ k = omega arith in
    omega (arith, ap (λ (c : ℕ). first_sum c xs) e)
first-front zero (suc b) k v xs h g =
    omega (
      arith,
      first-front zero b k v xs (omega arith) g,
      first_cons (0 + k) v (replicate b v ++ xs) (greatest-front b v xs g),
    )
first-front (suc a) zero k v xs h g = no_way (omega arith)
first-front (suc a) (suc b) k v xs h g =
    let e : suc a + k ≡ suc (a + k) = omega arith in
    omega (
      arith,
      first-front a b k v xs (omega arith) g,
      ap (λ (c : ℕ). first_sum c (v ∷ (replicate b v ++ xs))) e,
    )

-- counts, g x of each x up to n, weigh no more than as many of the greatest that h, at least g, allows
pub falling_most :
    (g h : ℕ → ℕ) (n : ℕ) →
    ((x : ℕ) → g x ≤ h x) → sum (λ x. x * g x) (suc n) ≤ first_sum (sum g (suc n)) (falling h n)
unfolding falling sum
falling_most g h zero le = omega arith
falling_most g h (suc n) le =
    let e : sum g (suc (suc n)) ≡ g (suc n) + sum g (suc n) = omega arith in
    omega (
      arith,
      falling_most g h n le,
      first-front
          (g (suc n))
          (h (suc n))
          (sum g (suc n))
          (suc n)
          (falling h n)
          (le (suc n))
          (omega (arith, greatest-falling h n)),
      ap (λ (c : ℕ). first_sum c (falling h (suc n))) e,
    )
