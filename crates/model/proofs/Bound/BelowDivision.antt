-- The bound is at most the number of cut lines of every division that extends the marking.
-- Assumes nothing.
use mathlib.Core.Bool.{Bool, true, false}
use mathlib.Core.Path.{◌≡◌, refl}
use mathlib.Core.Logic.{◌⊎◌, inl, inr, ⊎_elim}
use Prim.Native.Nat.{ℕ, ◌+◌, ◌≤◌, ◌<◌}
use native.Mathlib.Omega.{arith}
use Rattle.counting.specs.Tests.{◌and◌, ◌or◌}
use Rattle.counting.specs.Sums.{count}
use Rattle.counting.proofs.Joined.{by_test, clash, and_intro, and_left, and_right, and_fails_left, or_left, or_right, or_cases, or_fails}
use Rattle.counting.proofs.Charged.{three}
use Rattle.model.specs.declared.Part.{Part}
use Rattle.model.specs.declared.Part.TheVariants.{Zero, One}
use Rattle.model.specs.declared.Caps.{Caps}
use Rattle.model.specs.Pattern.{Pattern, Inside, lines, row_line, column_line, on}
use Rattle.model.specs.Marking.{Marking, condition}
use Rattle.model.specs.Bound.{says_cut, says_torn, leans, conflict, L1, L2, L3, L4, bound}
use Rattle.model.proofs.Split.Lines.{on_row, on_column, on_line_in}
use Rattle.model.proofs.Bound.Conditions.{cut_not_torn, cut_not_leaning, torn_not_leaning, leaning_once}
use Rattle.model.proofs.Bound.Division.{Division, says_cut_lem, torn_cut, leaning_cut}
use Rattle.model.proofs.Bound.Cover.{cover_bounds}
use Rattle.model.proofs.Bound.Stake.{leans_cut, cut_leans, cut_leans_cut}
use Rattle.model.proofs.Bound.Struck.{struck_cut}

-- line l leans, to either part, and is cut
unfoldable pub either_cut : Pattern → Marking → (ℕ → Bool) → ℕ → Bool
either_cut P μ cut l = leans_cut P μ cut Zero l or leans_cut P μ cut One l

-- a line that leans to 0 and is cut does not lean to 1
cut_leans_once :
    (P : Pattern) (μ : Marking) (cut : ℕ → Bool) (l : ℕ) → leans_cut P μ cut Zero l ≡ true → leans_cut P μ cut One l ≡ false
unfolding leans_cut leans
cut_leans_once P μ cut l h =
    and_fails_left
    (cut l)
    (leaning_once (condition P μ l) (cut_leans P μ cut Zero l h))

-- a line that does not lean is no leaning line that is cut
no_lean_cut :
    (P : Pattern) (μ : Marking) (cut : ℕ → Bool) (l : ℕ) →
    ((p : Part) → leans P μ p l ≡ false) → either_cut P μ cut l ≡ false
unfolding either_cut leans_cut
no_lean_cut P μ cut l h =
    or_fails (and_fails_left (cut l) (h Zero)) (and_fails_left (cut l) (h One))

-- leaning lines that are cut, to 0 and to 1
either_both :
    (P : Pattern) (μ : Marking) (cut : ℕ → Bool) →
    count (leans_cut P μ cut Zero) (lines P) + count (leans_cut P μ cut One) (lines P) ≤ count (either_cut P μ cut) (lines P)
unfolding either_cut
either_both P μ cut =
    omega (
      arith,
      three
          (leans_cut P μ cut Zero)
          (leans_cut P μ cut One)
          (λ l. false)
          (either_cut P μ cut)
          (lines P)
          (record {
            p_d = λ l b h. or_left (leans_cut P μ cut One l) h;
            q_d = λ l b h. or_right (leans_cut P μ cut Zero l) h;
            r_d = λ l b h. clash h refl;
            p_q = λ l b h. cut_leans_once P μ cut l h;
            p_r = λ l b h. refl;
            q_r = λ l b h. refl;
          }),
    )

module _ {P : Pattern} {caps : Caps} {μ : Marking} {gives : Part → ℕ → Bool} {cut : ℕ → Bool} (i : Inside P) (d : Division P caps μ gives cut) where
  -- L3 is at most the number of leaning lines that are cut
  pub L3_below : L3 P caps μ ≤ count (either_cut P μ cut) (lines P)
  unfolding L3
  L3_below =
      omega (
        arith,
        struck_cut i d Zero,
        struck_cut i d One,
        either_both P μ cut,
      )

  -- a line that leans to p is cut, or its nonzero t is in p
  lean_cut :
      (p : Part) (l t : ℕ) →
      t < P.size → on P l t ≡ true → leans P μ p l ≡ true → gives p t ≡ false → either_cut P μ cut l ≡ true
  unfolding either_cut leans_cut
  lean_cut Zero l t b h e away =
      or_left (leans_cut P μ cut One l) (and_intro e (leaning_cut d Zero l t (on_line_in P l t i b h) b h e away))
  lean_cut One l t b h e away =
      or_right (leans_cut P μ cut Zero l) (and_intro e (leaning_cut d One l t (on_line_in P l t i b h) b h e away))

  -- of two lines that hold a nonzero and lean to 0 and to 1, one is cut
  one_cut :
      (k l t : ℕ) →
      t < P.size → on P k t ≡ true → on P l t ≡ true →
      leans P μ Zero k ≡ true → leans P μ One l ≡ true → (either_cut P μ cut k ≡ true) ⊎ (either_cut P μ cut l ≡ true)
  one_cut k l t b g h u v =
      by_test
      (gives Zero t)
      (λ stays. inr (lean_cut One l t b h v (d.once t b stays)))
      (λ away. inl (lean_cut Zero k t b g u away))

  -- of the two lines of a conflict one is cut
  conflict_cut :
      (t : ℕ) → t < P.size → conflict P μ t ≡ true →
      either_cut P μ cut (row_line P t) or either_cut P μ cut (column_line P t) ≡ true
  unfolding conflict
  conflict_cut t b h =
      ⊎_elim
      (λ e. ⊎_elim
      (λ c. or_left (either_cut P μ cut (column_line P t)) c)
      (λ c. or_right (either_cut P μ cut (row_line P t)) c)
      (one_cut (row_line P t) (column_line P t) t b (on_row P t) (on_column P t)
      (and_left (leans P μ Zero (row_line P t)) (leans P μ One (column_line P t)) e)
      (and_right (leans P μ Zero (row_line P t)) (leans P μ One (column_line P t)) e)))
      (λ e. ⊎_elim
      (λ c. or_right (either_cut P μ cut (row_line P t)) c)
      (λ c. or_left (either_cut P μ cut (column_line P t)) c)
      (one_cut (column_line P t) (row_line P t) t b (on_column P t) (on_row P t)
      (and_right (leans P μ One (row_line P t)) (leans P μ Zero (column_line P t)) e)
      (and_left (leans P μ One (row_line P t)) (leans P μ Zero (column_line P t)) e)))
      (or_cases
      (leans P μ Zero (row_line P t) and leans P μ One (column_line P t))
      (leans P μ One (row_line P t) and leans P μ Zero (column_line P t))
      h)

  -- L4 is at most the number of leaning lines that are cut
  pub L4_below : L4 P μ ≤ count (either_cut P μ cut) (lines P)
  L4_below = cover_bounds P μ (either_cut P μ cut) i conflict_cut

  -- a leaning line that is cut is cut
  either_cut_lem : (l : ℕ) → either_cut P μ cut l ≡ true → cut l ≡ true
  unfolding either_cut
  either_cut_lem l h =
      ⊎_elim
      (λ e. cut_leans_cut P μ cut Zero l e)
      (λ e. cut_leans_cut P μ cut One l e)
      (or_cases (leans_cut P μ cut Zero l) (leans_cut P μ cut One l) h)

  -- lines marked cut, torn lines and leaning lines that are cut are cut lines, and none is counted twice
  kinds_cut : L1 P μ + L2 P μ + count (either_cut P μ cut) (lines P) ≤ count cut (lines P)
  unfolding L1 L2 leans
  kinds_cut =
      three
      (λ l. says_cut (condition P μ l))
      (λ l. says_torn (condition P μ l))
      (either_cut P μ cut)
      cut
      (lines P)
      (record {
        p_d = λ l b h. says_cut_lem d l b h;
        q_d = λ l b h. torn_cut d l b h;
        r_d = λ l b h. either_cut_lem l h;
        p_q = λ l b h. cut_not_torn (condition P μ l) h;
        p_r = λ l b h. no_lean_cut P μ cut l (λ p. cut_not_leaning p (condition P μ l) h);
        q_r = λ l b h. no_lean_cut P μ cut l (λ p. torn_not_leaning p (condition P μ l) h);
      })

-- the bound is at most the number of cut lines of every division that extends the marking
pub bound_below_division :
    (P : Pattern) (caps : Caps) (μ : Marking) (gives : Part → ℕ → Bool) (cut : ℕ → Bool) →
    Inside P → Division P caps μ gives cut → bound P caps μ ≤ count cut (lines P)
unfolding bound
bound_below_division P caps μ gives cut i d = omega (arith, L3_below i d, L4_below i d, kinds_cut i d)
