-- The lines struck are few: no weight has more than all lines.
-- Assumes nothing.
use mathlib.Core.List.{List, [], ◌∷◌}
use Prim.Native.Nat.{ℕ, zero, suc, ◌+◌, ◌-◌, ◌*◌, ◌≤◌}
use native.Mathlib.Omega.{arith}
use lib.Dec.{eqb, leb}
use lib.ListN.{length, replicate, length-replicate, length-append}
use Rattle.counting.specs.Tests.{◌and◌}
use Rattle.counting.specs.Sums.{count}
use Rattle.counting.proofs.Joined.{by_test, pick_true, pick-false}
use Rattle.counting.proofs.Counted.{count_most}
use Rattle.model.specs.declared.Part.{Part}
use Rattle.model.specs.declared.Caps.{Caps}
use Rattle.model.specs.Limits.{line_room, nonzero_limit}
use Rattle.model.specs.Pattern.{Pattern, lines}
use Rattle.model.specs.Split.{cap_of}
use Rattle.model.specs.Marking.{Marking, taken}
use Rattle.model.specs.Bound.{leans, untaken_on, falling, leaning_counts, at_stake, strikes, struck}

-- no more are struck than there are
strikes_most : (xs : List ℕ) (s room : ℕ) → strikes xs s room ≤ length xs
unfolding strikes
strikes_most [] s room = omega arith
strikes_most (x ∷ xs) s room =
    by_test
    (leb s room)
    (λ e. omega (arith, pick_true 0 (suc (strikes xs (s - x) room)) e))
    (λ e. omega (arith, pick-false 0 (suc (strikes xs (s - x) room)) e, strikes_most xs (s - x) room))

-- so many at most of each weight
falling_most : (h : ℕ → ℕ) (n : ℕ) → ((x : ℕ) → h x ≤ line_room) → length (falling h n) ≤ line_room * (n + 1)
unfolding falling
falling_most h zero few = omega (arith, few 0, length-replicate {A = ℕ} (h 0) 0)
falling_most h (suc n) few =
    omega (
      arith,
      few (suc n),
      length-append (replicate (h (suc n)) (suc n)) (falling h n),
      length-replicate (h (suc n)) (suc n),
      falling_most h n few,
    )

pub struck_few :
    (P : Pattern) (caps : Caps) (μ : Marking) (p : Part) → lines P ≤ line_room → P.size ≤ nonzero_limit →
    struck P caps μ p ≤ line_room * (nonzero_limit + 1)
unfolding struck leaning_counts
struck_few P caps μ p few small =
    let h : ℕ → ℕ = λ x. count (λ l. leans P μ p l and eqb (untaken_on P μ l) x) (lines P) in
    omega (
      arith,
      strikes_most (falling h P.size) (at_stake P μ p) (cap_of caps p - taken P μ p),
      falling_most h P.size (λ x. omega (arith, count_most (λ l. leans P μ p l and eqb (untaken_on P μ l) x) (lines P))),
    )
