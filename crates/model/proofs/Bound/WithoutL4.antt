-- The bound with L4 left out, and L1 as the number of lines with mark cut: L1 is below the one, and it below the bound.
-- Assumes nothing.
use mathlib.Core.Path.{◌≡◌}
use Prim.Native.Nat.{ℕ, ◌+◌, ◌≤◌}
use native.Mathlib.Omega.{arith}
use lib.Dec.{eqb}
use Rattle.counting.specs.Sums.{count}
use Rattle.counting.proofs.Counted.{count_eq}
use Rattle.model.specs.declared.Mark.TheVariants.{Cut}
use Rattle.model.specs.declared.Caps.{Caps}
use Rattle.model.specs.Pattern.{Pattern, lines}
use Rattle.model.specs.Marking.{Marking, mark_number, condition}
use Rattle.model.specs.Bound.{says_cut, L1, L2, L3, bound}
use Rattle.model.proofs.Bound.Conditions.{cut_is}

-- L1 is the number of lines with mark cut
pub L1-is : (P : Pattern) (μ : Marking) → L1 P μ ≡ count (λ l. eqb (μ l) (mark_number Cut)) (lines P)
unfolding L1
L1-is P μ =
    count_eq
    (λ l. says_cut (condition P μ l))
    (λ l. eqb (μ l) (mark_number Cut))
    (lines P)
    (λ l b. cut_is P μ l)

-- L1 is at most the bound
pub L1_below_bound : (P : Pattern) (caps : Caps) (μ : Marking) → L1 P μ ≤ bound P caps μ
unfolding bound
L1_below_bound P caps μ = omega arith

-- the bound with L4 left out
unfoldable pub bound_without_L4 : Pattern → Caps → Marking → ℕ
bound_without_L4 P caps μ = L1 P μ + L2 P μ + L3 P caps μ

-- it is at most the bound
pub without_below : (P : Pattern) (caps : Caps) (μ : Marking) → bound_without_L4 P caps μ ≤ bound P caps μ
unfolding bound bound_without_L4
without_below P caps μ = omega arith

-- L1 is at most it
pub L1_below_without : (P : Pattern) (caps : Caps) (μ : Marking) → L1 P μ ≤ bound_without_L4 P caps μ
unfolding bound_without_L4
L1_below_without P caps μ = omega arith
