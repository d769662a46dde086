-- L3 for one part: the number struck is at most the number of lines that lean to the part and are cut.
-- Assumes nothing.
use mathlib.Core.Bool.{Bool}
use mathlib.Core.Path.{ap}
use Prim.Native.Nat.{ℕ, suc, ◌-◌, ◌*◌, ◌≤◌, ◌<◌}
use native.Mathlib.Omega.{arith}
use lib.Dec.{eqb}
use Rattle.counting.specs.Tests.{◌and◌, bit}
use Rattle.counting.specs.Sums.{sum, count}
use Rattle.counting.proofs.Joined.{and_intro, and_left, and_right}
use Rattle.counting.proofs.Counted.{count_mono, count_most}
use Rattle.counting.proofs.Grouped.{sum-by_value, count-by_value}
use Rattle.model.specs.declared.Part.{Part}
use Rattle.model.specs.declared.Caps.{Caps}
use Rattle.model.specs.Pattern.{Pattern, Inside, lines, on, line_count}
use Rattle.model.specs.Split.{cap_of}
use Rattle.model.specs.Marking.{Marking, taken}
use Rattle.model.specs.Bound.{leans, untaken, untaken_on, at_stake, falling, leaning_counts, struck}
use Rattle.model.proofs.Bound.Division.{Division}
use Rattle.model.proofs.Bound.Stake.{leans_cut, cut_leans, stake_fits}
use Rattle.model.proofs.Bound.Greedy.{first_sum, strikes_least, falling_most}

-- a line has at most all nonzeros untaken
pub untaken_most : (P : Pattern) (μ : Marking) (l : ℕ) → untaken_on P μ l ≤ P.size
unfolding untaken_on
untaken_most P μ l = count_most (λ t. on P l t and untaken P μ t) P.size

-- and at most all of its own
pub untaken_line : (P : Pattern) (μ : Marking) (l : ℕ) → untaken_on P μ l ≤ line_count P l
unfolding untaken_on line_count
untaken_line P μ l = count_mono (λ t. on P l t and untaken P μ t) (on P l) P.size (λ t b e. and_left (on P l t) (untaken P μ t) e)

-- lines that lean to p and are cut have no more untaken nonzeros than as many first counts of the lines that lean to p
paid_most :
    (P : Pattern) (μ : Marking) (cut : ℕ → Bool) (p : Part) →
    sum (λ l. untaken_on P μ l * bit (leans_cut P μ cut p l)) (lines P)
    ≤ first_sum (count (leans_cut P μ cut p) (lines P)) (leaning_counts P μ p)
unfolding leaning_counts
paid_most P μ cut p =
    omega (
      arith,
      sum-by_value (λ x. x) (leans_cut P μ cut p) (untaken_on P μ) (lines P) (suc P.size) small,
      falling_most cut_at lean_at P.size fewer,
      ap
          (λ (c : ℕ). first_sum c (falling lean_at P.size))
          (count-by_value (leans_cut P μ cut p) (untaken_on P μ) (lines P) (suc P.size) small),
    )
  where
    cut_at : ℕ → ℕ
    cut_at x = count (λ l. leans_cut P μ cut p l and eqb (untaken_on P μ l) x) (lines P)

    lean_at : ℕ → ℕ
    lean_at x = count (λ l. leans P μ p l and eqb (untaken_on P μ l) x) (lines P)

    small : (l : ℕ) → l < lines P → untaken_on P μ l < suc P.size
    small l b = omega (arith, untaken_most P μ l)

    fewer : (x : ℕ) → cut_at x ≤ lean_at x
    fewer x =
        count_mono
        (λ l. leans_cut P μ cut p l and eqb (untaken_on P μ l) x)
        (λ l. leans P μ p l and eqb (untaken_on P μ l) x)
        (lines P)
        (λ l b h. and_intro
        (cut_leans P μ cut p l (and_left (leans_cut P μ cut p l) (eqb (untaken_on P μ l) x) h))
        (and_right (leans_cut P μ cut p l) (eqb (untaken_on P μ l) x) h))

-- the number struck for p is at most the number of lines that lean to p and are cut
pub struck_cut :
    {P : Pattern} {caps : Caps} {μ : Marking} {gives : Part → ℕ → Bool} {cut : ℕ → Bool} →
    Inside P → Division P caps μ gives cut → (p : Part) → struck P caps μ p ≤ count (leans_cut P μ cut p) (lines P)
unfolding struck
struck_cut {P} {caps} {μ} {gives} {cut} i d p =
    strikes_least
    (leaning_counts P μ p)
    (count (leans_cut P μ cut p) (lines P))
    (at_stake P μ p)
    (cap_of caps p - taken P μ p)
    (omega (arith, stake_fits i d p, paid_most P μ cut p))
