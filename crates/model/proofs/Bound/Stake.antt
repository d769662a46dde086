-- What is at stake for a part: it fits the room, but for untaken nonzeros on lines that lean to the part and are cut.
-- Assumes nothing.
use mathlib.Core.Bool.{Bool, true, false, not}
use mathlib.Core.Path.{◌≡◌, refl, ap}
use mathlib.Core.Logic.{⊎_elim}
use Prim.Native.Nat.{ℕ, ◌+◌, ◌-◌, ◌*◌, ◌≤◌, ◌<◌}
use native.Mathlib.Omega.{arith}
use borrow.Author.Tests.{not-true}
use Rattle.counting.specs.Tests.{◌and◌, ◌or◌, bit}
use Rattle.counting.specs.Sums.{sum, count}
use Rattle.counting.proofs.Joined.{by_test, and_intro, and_left, and_right, and_fails_left, or_left, or_right, or_cases, bit-true, bit-false, bit_le_one, bit_mono}
use Rattle.counting.proofs.Summed.{sum_le, sum_add}
use Rattle.counting.proofs.Counted.{count_mono, count-some, count_none, count-split}
use Rattle.counting.proofs.Charged.{charge}
use Rattle.model.specs.declared.Part.{Part}
use Rattle.model.specs.declared.Part.TheVariants.{Zero, One}
use Rattle.model.specs.declared.Caps.{Caps}
use Rattle.model.specs.Pattern.{Pattern, Inside, lines, row_line, column_line, on}
use Rattle.model.specs.Split.{cap_of}
use Rattle.model.specs.Marking.{Marking, takes, taken}
use Rattle.model.specs.Bound.{leans, untaken, untaken_on, at_stake}
use Rattle.model.proofs.Split.Lines.{on_row, on_column, on_line_in}
use Rattle.model.proofs.Bound.Division.{Division, leaning_cut}

-- a nonzero taken by p is not untaken
pub taken-not-untaken : (P : Pattern) (μ : Marking) (p : Part) (t : ℕ) → takes P μ p t ≡ true → untaken P μ t ≡ false
unfolding untaken
taken-not-untaken P μ Zero t h = ap not (or_left (takes P μ One t) h)
taken-not-untaken P μ One t h = ap not (or_right (takes P μ Zero t) h)

-- nonzero t is untaken and in a line that leans to p
unfoldable pub stakes : Pattern → Marking → Part → ℕ → Bool
stakes P μ p t = untaken P μ t and (leans P μ p (row_line P t) or leans P μ p (column_line P t))

-- what is at stake is the number of such nonzeros
stake_count : (P : Pattern) (μ : Marking) (p : Part) → at_stake P μ p ≡ count (stakes P μ p) P.size
unfolding at_stake stakes
stake_count P μ p = refl

-- a nonzero taken by p is not at stake
taken-not_staked : (P : Pattern) (μ : Marking) (p : Part) (t : ℕ) → takes P μ p t ≡ true → stakes P μ p t ≡ false
unfolding stakes
taken-not_staked P μ p t h =
    and_fails_left (leans P μ p (row_line P t) or leans P μ p (column_line P t)) (taken-not-untaken P μ p t h)

-- line l leans to p and is cut
unfoldable pub leans_cut : Pattern → Marking → (ℕ → Bool) → Part → ℕ → Bool
leans_cut P μ cut p l = leans P μ p l and cut l

-- such a line leans to p
pub cut_leans : (P : Pattern) (μ : Marking) (cut : ℕ → Bool) (p : Part) (l : ℕ) → leans_cut P μ cut p l ≡ true → leans P μ p l ≡ true
unfolding leans_cut
cut_leans P μ cut p l h = and_left (leans P μ p l) (cut l) h

-- such a line is cut
pub cut_leans_cut : (P : Pattern) (μ : Marking) (cut : ℕ → Bool) (p : Part) (l : ℕ) → leans_cut P μ cut p l ≡ true → cut l ≡ true
unfolding leans_cut
cut_leans_cut P μ cut p l h = and_right (leans P μ p l) (cut l) h

-- a line that leans to p and is cut pays for its untaken nonzeros
line_pays :
    (P : Pattern) (μ : Marking) (cut : ℕ → Bool) (p : Part) (l : ℕ) →
    count (λ t. leans_cut P μ cut p l and (on P l t and untaken P μ t)) P.size
    ≤ untaken_on P μ l * bit (leans_cut P μ cut p l)
unfolding untaken_on
line_pays P μ cut p l =
    by_test
    (leans_cut P μ cut p l)
    (λ e. rw (bit-true (leans_cut P μ cut p l) e) (omega (
      arith,
      count_mono
          (λ t. leans_cut P μ cut p l and (on P l t and untaken P μ t))
          (λ t. on P l t and untaken P μ t)
          P.size
          (λ t b h. and_right (leans_cut P μ cut p l) (on P l t and untaken P μ t) h),
    )))
    (λ e. omega (
      arith,
      count_none
          (λ t. leans_cut P μ cut p l and (on P l t and untaken P μ t))
          P.size
          (λ t b. and_fails_left (on P l t and untaken P μ t) e),
    ))

module _ {P : Pattern} {caps : Caps} {μ : Marking} {gives : Part → ℕ → Bool} {cut : ℕ → Bool} (i : Inside P) (d : Division P caps μ gives cut) (p : Part) where
  -- taken nonzeros and those at stake that stay in p are all in p
  kept_fits : taken P μ p + count (λ t. stakes P μ p t and gives p t) P.size ≤ count (gives p) P.size
  unfolding taken
  kept_fits =
      omega (
        arith,
        sum_add (λ t. bit (takes P μ p t)) (λ t. bit (stakes P μ p t and gives p t)) P.size,
        sum_le
            (λ t. bit (takes P μ p t) + bit (stakes P μ p t and gives p t))
            (λ t. bit (gives p t))
            P.size
            each,
      )
    where
      each : (t : ℕ) → t < P.size → bit (takes P μ p t) + bit (stakes P μ p t and gives p t) ≤ bit (gives p t)
      each t b =
          by_test
          (takes P μ p t)
          (λ e. omega (
            arith,
            bit_le_one (takes P μ p t),
            bit-false
                (stakes P μ p t and gives p t)
                (and_fails_left (gives p t) (taken-not_staked P μ p t e)),
            bit-true (gives p t) (d.taken_given p t b e),
          ))
          (λ e. omega (
            arith,
            bit-false (takes P μ p t) e,
            bit_mono
                (stakes P μ p t and gives p t)
                (gives p t)
                (λ h. and_right (stakes P μ p t) (gives p t) h),
          ))

  -- an untaken nonzero outside p, on a line that leans to p
  lost_on_line :
      (t : ℕ) → t < P.size → untaken P μ t ≡ true → gives p t ≡ false →
      (l : ℕ) → on P l t ≡ true → leans P μ p l ≡ true →
      1 ≤ count (λ l. leans_cut P μ cut p l and (on P l t and untaken P μ t)) (lines P)
  unfolding leans_cut
  lost_on_line t b u away l h e =
      count-some
      (λ l. leans_cut P μ cut p l and (on P l t and untaken P μ t))
      (lines P)
      l
      (on_line_in P l t i b h)
      (and_intro (and_intro e (leaning_cut d p l t (on_line_in P l t i b h) b h e away)) (and_intro h u))

  -- a nonzero at stake that is not in p is untaken on a line that leans to p and is cut
  lost_on :
      (t : ℕ) → t < P.size → stakes P μ p t and not (gives p t) ≡ true →
      1 ≤ count (λ l. leans_cut P μ cut p l and (on P l t and untaken P μ t)) (lines P)
  unfolding stakes
  lost_on t b h =
      ⊎_elim
      (λ e. lost_on_line t b untaken_t away (row_line P t) (on_row P t) e)
      (λ e. lost_on_line t b untaken_t away (column_line P t) (on_column P t) e)
      (or_cases
      (leans P μ p (row_line P t))
      (leans P μ p (column_line P t))
      (and_right (untaken P μ t) (leans P μ p (row_line P t) or leans P μ p (column_line P t)) staked))
    where
      staked : stakes P μ p t ≡ true
      staked = and_left (stakes P μ p t) (not (gives p t)) h

      untaken_t : untaken P μ t ≡ true
      untaken_t = and_left (untaken P μ t) (leans P μ p (row_line P t) or leans P μ p (column_line P t)) staked

      away : gives p t ≡ false
      away = not-true (gives p t) (and_right (stakes P μ p t) (not (gives p t)) h)

  -- the nonzeros at stake that are not in p are paid by the lines that lean to p and are cut
  lost_paid :
      count (λ t. stakes P μ p t and not (gives p t)) P.size
      ≤ sum (λ l. untaken_on P μ l * bit (leans_cut P μ cut p l)) (lines P)
  lost_paid =
      charge
      (λ t l. bit (leans_cut P μ cut p l and (on P l t and untaken P μ t)))
      (λ t. bit (stakes P μ p t and not (gives p t)))
      (λ l. untaken_on P μ l * bit (leans_cut P μ cut p l))
      P.size
      (lines P)
      paid
      (λ l b. line_pays P μ cut p l)
    where
      paid :
          (t : ℕ) → t < P.size →
          bit (stakes P μ p t and not (gives p t))
          ≤ count (λ l. leans_cut P μ cut p l and (on P l t and untaken P μ t)) (lines P)
      paid t b =
          by_test
          (stakes P μ p t and not (gives p t))
          (λ e. omega (arith, bit_le_one (stakes P μ p t and not (gives p t)), lost_on t b e))
          (λ e. omega (arith, bit-false (stakes P μ p t and not (gives p t)) e))

  -- what is at stake fits the room and the lines that lean to p and are cut
  pub stake_fits :
      at_stake P μ p ≤ (cap_of caps p - taken P μ p) + sum (λ l. untaken_on P μ l * bit (leans_cut P μ cut p l)) (lines P)
  stake_fits =
      omega (
        arith,
        stake_count P μ p,
        count-split (stakes P μ p) (gives p) P.size,
        d.fits p,
        kept_fits,
        lost_paid,
      )
