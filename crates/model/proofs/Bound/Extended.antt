-- A marking that extends another: if it is valid, so is the other.
-- If it also marks every line with nonzeros, it is a division that extends the other, and the bound is at most its number of lines marked cut.
-- Assumes nothing.
use mathlib.Core.Bool.{true, false}
use mathlib.Core.Path.{◌≡◌, refl, sym, ◌∙◌, ap}
use mathlib.Core.Logic.{◌⊎◌, inl, inr, ⊎_elim}
use Prim.Native.Nat.{ℕ, zero, suc, ◌≤◌, ◌<◌}
use native.Mathlib.Omega.{arith}
use lib.Dec.{eqb}
use borrow.Author.Tests.{eqb-true, eqb-false, eq-eqb}
use Rattle.counting.specs.Sums.{count}
use Rattle.counting.proofs.Joined.{no_way, clash, fails, or_left, or_right, or_cases}
use Rattle.counting.proofs.Counted.{count_mono}
use Rattle.model.specs.declared.Part.{Part}
use Rattle.model.specs.declared.Part.TheVariants.{Zero, One}
use Rattle.model.specs.declared.Mark.TheVariants.{To, Cut}
use Rattle.model.specs.declared.Caps.{Caps}
use Rattle.model.specs.Pattern.{Pattern, Inside, lines, row_line, column_line, on, nonempty}
use Rattle.model.specs.Marking.{Marking, mark_number, unmarked, takes, valid}
use Rattle.model.specs.Bound.{bound}
use Rattle.model.proofs.Split.Lines.{on_cases, row_line_in, column_line_in}
use Rattle.model.proofs.Split.Volume.{on-nonempty}
use Rattle.model.proofs.Bound.Validity.{Valid, valid_is, is-valid}
use Rattle.model.proofs.Bound.Division.{Division}
use Rattle.model.proofs.Bound.BelowDivision.{bound_below_division}

-- ν extends μ: a line marked in μ has the same mark in ν
pub record Extends (P : Pattern) (μ ν : Marking) : Type 0 where
  pub same : (l : ℕ) → l < lines P → μ l < unmarked → ν l ≡ μ l

-- ν marks every line that has nonzeros
pub record Marks (P : Pattern) (ν : Marking) : Type 0 where
  pub marked : (l : ℕ) → l < lines P → nonempty P l ≡ true → ν l < unmarked

-- a line with mark p takes its nonzeros for p
pub marked_takes :
    (P : Pattern) (ν : Marking) (p : Part) (l t : ℕ) →
    on P l t ≡ true → ν l ≡ mark_number (To p) → takes P ν p t ≡ true
unfolding takes
marked_takes P ν p l t h e =
    ⊎_elim
    (λ r. or_left
    (eqb (ν (column_line P t)) (mark_number (To p)))
    (eq-eqb (ν (row_line P t)) (mark_number (To p)) (ap ν (sym r) ∙ e)))
    (λ k. or_right
    (eqb (ν (row_line P t)) (mark_number (To p)))
    (eq-eqb (ν (column_line P t)) (mark_number (To p)) (ap ν (sym k) ∙ e)))
    (on_cases P l t h)

-- a mark that is not cut is a part
pub part_mark :
    (x : ℕ) → x < unmarked → eqb x (mark_number Cut) ≡ false → (x ≡ mark_number (To Zero)) ⊎ (x ≡ mark_number (To One))
part_mark zero b h = inl refl
part_mark (suc zero) b h = inr refl
part_mark (suc (suc zero)) b h = absurd (eqb-false 2 2 h refl)
part_mark (suc (suc (suc x))) b h = no_way (omega arith)

-- a part's mark is a mark
part_marked : (p : Part) (x : ℕ) → x ≡ mark_number (To p) → x < unmarked
part_marked Zero x e = omega arith
part_marked One x e = omega arith

module _ {P : Pattern} {μ ν : Marking} (i : Inside P) (x : Extends P μ ν) where
  -- a line with mark p in μ has mark p in ν
  part_kept : (p : Part) (l : ℕ) → l < lines P → eqb (μ l) (mark_number (To p)) ≡ true → eqb (ν l) (mark_number (To p)) ≡ true
  part_kept p l b h =
      let e = eqb-true (μ l) (mark_number (To p)) h in
      eq-eqb (ν l) (mark_number (To p)) (x.same l b (part_marked p (μ l) e) ∙ e)

  -- a nonzero taken by p in μ is taken by p in ν
  pub takes_kept : (p : Part) (t : ℕ) → t < P.size → takes P μ p t ≡ true → takes P ν p t ≡ true
  unfolding takes
  takes_kept p t b h =
      ⊎_elim
      (λ e. or_left
      (eqb (ν (column_line P t)) (mark_number (To p)))
      (part_kept p (row_line P t) (row_line_in P t i b) e))
      (λ e. or_right
      (eqb (ν (row_line P t)) (mark_number (To p)))
      (part_kept p (column_line P t) (column_line_in P t i b) e))
      (or_cases (eqb (μ (row_line P t)) (mark_number (To p))) (eqb (μ (column_line P t)) (mark_number (To p))) h)

  -- a line marked cut in μ is marked cut in ν
  cut_kept : (l : ℕ) → l < lines P → μ l ≡ mark_number Cut → eqb (ν l) (mark_number Cut) ≡ true
  cut_kept l b e = eq-eqb (ν l) (mark_number Cut) (x.same l b (omega arith) ∙ e)

-- validity is inherited by what a marking extends
pub valid_begins :
    (P : Pattern) (caps : Caps) (μ ν : Marking) → Inside P → Extends P μ ν → valid P caps ν ≡ true → valid P caps μ ≡ true
valid_begins P caps μ ν i x h =
    is-valid P caps μ (record {
      once = λ t b e. fails
          (takes P μ One t)
          (λ o. clash (takes_kept i x One t b o) (f.once t b (takes_kept i x Zero t b e)));
      fits = λ p. omega (
        arith,
        f.fits p,
        count_mono (takes P μ p) (takes P ν p) P.size (takes_kept i x p),
      );
    })
  where
    f : Valid P caps ν
    f = valid_is P caps ν h

-- a line of a valid marking that is marked, and not cut, has all its nonzeros taken by the part of one of them
marked_whole :
    (P : Pattern) (caps : Caps) (ν : Marking) → Valid P caps ν →
    (p : Part) (l s t : ℕ) → ν l < unmarked → eqb (ν l) (mark_number Cut) ≡ false → s < P.size →
    on P l s ≡ true → on P l t ≡ true → takes P ν p s ≡ true → takes P ν p t ≡ true
marked_whole P caps ν f Zero l s t m uncut b g h e =
    ⊎_elim
    (λ z. marked_takes P ν Zero l t h z)
    (λ o. clash (marked_takes P ν One l s g o) (f.once s b e))
    (part_mark (ν l) m uncut)
marked_whole P caps ν f One l s t m uncut b g h e =
    ⊎_elim
    (λ z. clash e (f.once s b (marked_takes P ν Zero l s g z)))
    (λ o. marked_takes P ν One l t h o)
    (part_mark (ν l) m uncut)

-- a valid marking that extends μ and marks every line with nonzeros is a division that extends μ
pub marking_division :
    (P : Pattern) (caps : Caps) (μ ν : Marking) →
    Inside P → Extends P μ ν → Marks P ν → valid P caps ν ≡ true →
    Division P caps μ (takes P ν) (λ l. eqb (ν l) (mark_number Cut))
marking_division P caps μ ν i x m h =
    record {
      taken_given = takes_kept i x;
      marked_cut = cut_kept i x;
      once = f.once;
      fits = f.fits;
      whole = λ p l s t b uncut c d g e. marked_whole P caps ν f p l s t (m.marked l b (on-nonempty P l s c g)) uncut c g e;
    }
  where
    f : Valid P caps ν
    f = valid_is P caps ν h

-- the bound of μ is at most the number of lines marked cut in every such marking
pub bound_below_marking :
    (P : Pattern) (caps : Caps) (μ ν : Marking) →
    Inside P → Extends P μ ν → Marks P ν → valid P caps ν ≡ true →
    bound P caps μ ≤ count (λ l. eqb (ν l) (mark_number Cut)) (lines P)
bound_below_marking P caps μ ν i x m h =
    bound_below_division P caps μ (takes P ν) (λ l. eqb (ν l) (mark_number Cut)) i (marking_division P caps μ ν i x m h)
