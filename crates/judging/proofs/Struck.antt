-- The lines struck for a part, from the tally of lines by their untaken nonzeros.
-- Assumes nothing.
use mathlib.Core.Bool.{Bool, true}
use mathlib.Core.List.{List}
use mathlib.Core.Path.{◌≡◌, sym, ◌∙◌, ap}
use Prim.Native.Nat.{ℕ, ◌-◌, ◌≤◌, ◌<◌}
use native.Mathlib.Omega.{arith}
use borrow.Author.Tests.{ne_eqb}
use lib.Dec.{eqb}
use lib.ListN.{get_or}
use Rattle.counting.specs.Tests.{◌and◌}
use Rattle.counting.specs.Sums.{count}
use Rattle.counting.proofs.Joined.{no_way, by_test, and_fails_left, and_fails_right}
use Rattle.counting.proofs.Counted.{count_eq, count_none}
use Rattle.model.specs.declared.Part.{Part}
use Rattle.model.specs.declared.Caps.{Caps}
use Rattle.model.specs.Limits.{line_limit}
use Rattle.model.specs.Pattern.{Pattern, Inside, lines, line_count}
use Rattle.model.specs.Split.{part_number, cap_of}
use Rattle.model.specs.Marking.{Marking, unmarked}
use Rattle.model.specs.Bound.{leans, untaken_on, at_stake, falling, leaning_counts, strikes, struck}
use Rattle.model.proofs.Bound.Conditions.{leaning_line}
use Rattle.model.proofs.Bound.Struck.{untaken_most, untaken_line}
use Rattle.model.proofs.Alike.Bounds.{falling_eq}
use Rattle.keeping.specs.Kinds.{cells, tally_of}
use Rattle.keeping.specs.Tied.{both_place, tally_place}
use Rattle.keeping.specs.Kept.{Holds}
use Rattle.keeping.proofs.MarkedTaken.{part_below}
use Rattle.judging.proofs.Conditions.{kinds_lean, leaning_left_lem}
use Rattle.judging.proofs.Staked.{stake_kept}
use Rattle.judging.proofs.Strikes.{falling_either}

module _ {P : Pattern} {μ : Marking} {marks by left kinds tally sums loads : List ℕ} (i : Inside P) (h : Holds P μ marks by left kinds tally sums loads) (p : Part) where
  -- a line that leans to p and has x untaken nonzeros, by what is kept and by the marking
  same_line :
      (x l : ℕ) → l < lines P →
      eqb (cells kinds l) (part_number p) and eqb (cells left l) x ≡ leans P μ p l and eqb (untaken_on P μ l) x
  same_line x l b =
      ap (λ (z : Bool). z and eqb (cells left l) x) (kinds_lean h p l b)
      ∙ by_test
      (leans P μ p l)
      (λ e. ap (λ (z : ℕ). leans P μ p l and eqb z x) (leaning_left_lem h p l b e))
      (λ e. and_fails_left (eqb (cells left l) x) e ∙ sym (and_fails_left (eqb (untaken_on P μ l) x) e))

  module _ (top : ℕ) (light : top ≤ line_limit) (above : (l : ℕ) → l < lines P → unmarked ≤ μ l → line_count P l ≤ top) where
    -- the tally from a weight that no unmarked line exceeds has the untaken counts of the lines that lean to p
    tally_kept : falling (λ x. get_or tally (tally_place (part_number p) x) 0) top ≡ leaning_counts P μ p
    unfolding tally_of leaning_counts
    tally_kept =
        falling_eq (λ x. get_or tally (tally_place (part_number p) x) 0) model top counted
        ∙ falling_either model top P.size heavy (λ x b. none x (λ l c e. omega (arith, untaken_most P μ l)))
      where
        model : ℕ → ℕ
        model x = count (λ l. leans P μ p l and eqb (untaken_on P μ l) x) (lines P)

        counted : (x : ℕ) → x ≤ top → get_or tally (tally_place (part_number p) x) 0 ≡ model x
        counted x b =
            h.stage.tied.tally_is (part_number p) x (part_below p) (omega arith)
            ∙ count_eq
            (λ l. eqb (cells kinds l) (part_number p) and eqb (cells left l) x)
            (λ l. leans P μ p l and eqb (untaken_on P μ l) x)
            (lines P)
            (same_line x)

        none : (x : ℕ) → ((l : ℕ) → l < lines P → leans P μ p l ≡ true → untaken_on P μ l < x) → model x ≡ 0
        none x few =
            count_none
            (λ l. leans P μ p l and eqb (untaken_on P μ l) x)
            (lines P)
            (λ l c. by_test
            (leans P μ p l)
            (λ e. and_fails_right (leans P μ p l) (ne_eqb (untaken_on P μ l) x (λ d. no_way (omega (arith, few l c e)))))
            (λ e. and_fails_left (eqb (untaken_on P μ l) x) e))

        heavy : (x : ℕ) → top < x → model x ≡ 0
        heavy x b = none x (λ l c e. omega (arith, untaken_line P μ l, above l c (leaning_line P μ p l e).free))

    -- the lines struck for p
    pub struck_kept :
        (caps : Caps) →
        strikes
        (falling (λ x. get_or tally (tally_place (part_number p) x) 0) top)
        (get_or sums (part_number p) 0 - get_or sums (both_place (part_number p)) 0)
        (cap_of caps p - get_or loads (part_number p) 0)
        ≡ struck P caps μ p
    unfolding struck
    struck_kept caps =
        let stake : get_or sums (part_number p) 0 - get_or sums (both_place (part_number p)) 0 ≡ at_stake P μ p = omega (arith, stake_kept i h p) in
        rw (tally_kept, stake, h.taken_is p)
