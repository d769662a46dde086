-- The bound that is made of what is kept is that of the marking, and how the least of it and a count is found step by step.
-- Assumes nothing.
use mathlib.Core.List.{List}
use mathlib.Core.Path.{◌≡◌, refl, sym, ◌∙◌, ap}
use Prim.Native.Nat.{ℕ, ◌+◌, ◌-◌, ◌≤◌, ◌<◌, min, max}
use native.Mathlib.Nat.{le-max_left, le-max_right, max-le}
use native.Mathlib.Omega.{arith}
use borrow.Author.Tests.{eq-eqb, ne_eqb}
use lib.ListN.{get_or}
use Rattle.counting.specs.Tests.{pick}
use Rattle.counting.proofs.Joined.{pick_true, pick-false}
use Rattle.model.specs.declared.Part.{Part}
use Rattle.model.specs.declared.Part.TheVariants.{Zero, One}
use Rattle.model.specs.declared.Mark.TheVariants.{Cut}
use Rattle.model.specs.declared.Caps.{Caps}
use Rattle.model.specs.Limits.{line_limit}
use Rattle.model.specs.Pattern.{Pattern, Inside, lines, line_count}
use Rattle.model.specs.Split.{part_number, cap_of}
use Rattle.model.specs.Marking.{Marking, mark_number, unmarked}
use Rattle.model.specs.Bound.{falling, strikes, struck, L3, L4, bound}
use Rattle.keeping.specs.Tied.{both_place, torn_place, tally_place}
use Rattle.keeping.specs.Kept.{Holds}
use Rattle.judging.specs.Bounds.{cap_at, struck_from, bound_from}
use Rattle.judging.proofs.Conditions.{torn_kept}
use Rattle.judging.proofs.Struck.{struck_kept}

-- the cap of a part
pub cap_at_lem : (caps : Caps) (p : Part) → cap_at caps (part_number p) ≡ cap_of caps p
unfolding cap_at pick
cap_at_lem caps Zero = refl
cap_at_lem caps One = refl

-- the cap of a number's part
pub cap_zero : (caps : Caps) (p : ℕ) → p ≡ 0 → caps.cap0 ≡ cap_at caps p
unfolding cap_at
cap_zero caps p e = sym (pick_true caps.cap0 caps.cap1 (eq-eqb p 0 e))

pub cap_one : (caps : Caps) (p : ℕ) → (p ≡ 0 → ⊥) → caps.cap1 ≡ cap_at caps p
unfolding cap_at
cap_one caps p n = sym (pick-false caps.cap0 caps.cap1 (ne_eqb p 0 n))

module _ {P : Pattern} {μ : Marking} {marks by left kinds tally sums loads : List ℕ} (i : Inside P) (h : Holds P μ marks by left kinds tally sums loads) (top : ℕ) (light : top ≤ line_limit) (above : (l : ℕ) → l < lines P → unmarked ≤ μ l → line_count P l ≤ top) (caps : Caps) where
  -- the lines struck for a part
  pub struck-from : (p : Part) → struck_from tally sums loads caps top (part_number p) ≡ struck P caps μ p
  unfolding struck_from
  struck-from p = rw (cap_at_lem caps p) (struck_kept i h p top light above caps)

  -- the bound of the marking
  pub bound_kept : (matched : ℕ) → matched ≡ L4 P μ → bound_from tally sums loads caps top matched ≡ bound P caps μ
  unfolding bound_from bound L3
  bound_kept matched e = rw (h.cut_is, torn_kept h, struck-from Zero, struck-from One, e)

-- the lines struck, by what is at stake and the room
pub struck-by :
    (tally sums loads : List ℕ) (caps : Caps) (top p r s room : ℕ) →
    r ≡ strikes (falling (λ x. get_or tally (tally_place p x) 0) top) s room →
    s ≡ get_or sums p 0 - get_or sums (both_place p) 0 → room ≡ cap_at caps p - get_or loads p 0 →
    r ≡ struck_from tally sums loads caps top p
unfolding struck_from
struck-by tally sums loads caps top p r s room e f g = e ∙ rw (f, g)

-- the least of a count and the bound, step by step: the matching alone reaches the count, or the lines struck for 0, or all lines struck, or nothing does
module _ (tally sums loads : List ℕ) (caps : Caps) (top matched best : ℕ) where
  abbrev sure : ℕ
  sure = get_or loads (mark_number Cut) 0 + get_or sums torn_place 0

  abbrev struck_at : ℕ → ℕ
  struck_at p = struck_from tally sums loads caps top p

  pub matched_reaches : best ≤ sure + matched → min (bound_from tally sums loads caps top matched) best ≡ best
  unfolding bound_from
  matched_reaches b = omega (arith, le-max_right (struck_at 0 + struck_at 1) matched)

  pub zero_reaches : best - sure ≤ struck_at 0 → min (bound_from tally sums loads caps top matched) best ≡ best
  unfolding bound_from
  zero_reaches b = omega (arith, le-max_left (struck_at 0 + struck_at 1) matched)

  pub struck_reaches : best - sure - struck_at 0 ≤ struck_at 1 → min (bound_from tally sums loads caps top matched) best ≡ best
  unfolding bound_from
  struck_reaches b = omega (arith, le-max_left (struck_at 0 + struck_at 1) matched)

  pub none_reaches :
      (zero one most : ℕ) → zero ≡ struck_at 0 → one ≡ struck_at 1 → most ≡ max (zero + one) matched →
      sure + matched < best → zero < best - sure → one < best - sure - zero →
      sure + most ≡ min (bound_from tally sums loads caps top matched) best
  unfolding bound_from
  none_reaches zero one most e f g a b c =
      let same : zero + one ≡ struck_at 0 + struck_at 1 = omega arith in
      let k : max (zero + one) matched ≤ best - sure = max-le (omega arith) (omega arith) in
      omega (arith, ap (λ (x : ℕ). max x matched) same)
