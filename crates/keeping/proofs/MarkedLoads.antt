-- A marking with one mark more: the loads of its marks, that is what each part takes and the number of cut lines.
-- Assumes nothing.
use mathlib.Core.Path.{◌≡◌, refl, sym, ◌∙◌, ap}
use Prim.Native.Nat.{ℕ, zero, suc, ◌+◌, ◌-◌, ◌≤◌, ◌<◌}
use native.Mathlib.Omega.{arith}
use borrow.Author.Tests.{eq-eqb, ne_eqb, lt-ltb, le-ltb}
use lib.Dec.{eqb, ltb}
use Rattle.counting.specs.Tests.{pick}
use Rattle.counting.proofs.Joined.{no_way, pick_true, pick-false, bit-true, bit-false}
use Rattle.counting.proofs.Counted.{count_most}
use Rattle.model.specs.declared.Part.{Part}
use Rattle.model.specs.declared.Part.TheVariants.{Zero, One}
use Rattle.model.specs.declared.Mark.TheVariants.{Cut}
use Rattle.model.specs.Pattern.{Pattern, Inside, lines}
use Rattle.model.specs.Split.{part_number}
use Rattle.model.specs.Marking.{Marking, mark_number, takes, taken, condition}
use Rattle.model.specs.Bound.{L1, says_cut}
use Rattle.keeping.specs.Kept.{crossing_with, crossing_open, marking_with, Placeable}
use Rattle.keeping.proofs.MarkedTaken.{part_below, taken_more, taken_same, cuts_marked}

-- the load that line l adds with mark p: its crossing lines that are cut or unmarked, or 1 cut line
unfoldable pub gain : Pattern → Marking → ℕ → ℕ → ℕ
gain P μ l p = pick (ltb p 2) (crossing_open P μ l) 1

pub gain_part : (P : Pattern) (μ : Marking) (l p : ℕ) → p < 2 → gain P μ l p ≡ crossing_open P μ l
unfolding gain
gain_part P μ l p b = pick_true (crossing_open P μ l) 1 (lt-ltb p 2 b)

pub gain_cut : (P : Pattern) (μ : Marking) (l p : ℕ) → 2 ≤ p → gain P μ l p ≡ 1
unfolding gain
gain_cut P μ l p b = pick-false (crossing_open P μ l) 1 (le-ltb p 2 b)

-- the load of a mark: what a part takes, or the number of cut lines
unfoldable pub load_of : Pattern → Marking → ℕ → ℕ
load_of P μ zero = taken P μ Zero
load_of P μ (suc zero) = taken P μ One
load_of P μ (suc (suc p)) = L1 P μ

pub load_part : (P : Pattern) (μ : Marking) (q : Part) → load_of P μ (part_number q) ≡ taken P μ q
unfolding load_of
load_part P μ Zero = refl
load_part P μ One = refl

pub load_cut : (P : Pattern) (μ : Marking) → load_of P μ (mark_number Cut) ≡ L1 P μ
unfolding load_of
load_cut P μ = refl

-- a fact of each part and of cut is one of every mark
pub by_mark :
    (A : ℕ → Type 0) → ((q : Part) → A (part_number q)) → A (mark_number Cut) →
    (p : ℕ) → p ≤ mark_number Cut → A p
by_mark A part cut zero b = part Zero
by_mark A part cut (suc zero) b = part One
by_mark A part cut (suc (suc zero)) b = cut
by_mark A part cut (suc (suc (suc p))) b = no_way (omega arith)

-- a mark that line l gets has more load by the gain
pub load_gained :
    {P : Pattern} {μ : Marking} {l p : ℕ} → Inside P → Placeable P μ l p →
    load_of P (marking_with μ l p) p ≡ load_of P μ p + gain P μ l p
load_gained {P} {μ} {l} {p} inside place =
    by_mark
    (λ q. q ≡ p → load_of P (marking_with μ l p) p ≡ load_of P μ p + gain P μ l p)
    (λ q d. let b : p < 2 = omega (arith, part_below q) in
    omega (
      arith,
      ap (load_of P (marking_with μ l p)) d,
      ap (load_of P μ) d,
      load_part P (marking_with μ l p) q,
      load_part P μ q,
      ap (λ x. taken P (marking_with μ l x) q) d,
      taken_more inside μ l q place.free (ap (λ x. crossing_with P μ (1 - x) l) d ∙ place.clear b),
      gain_part P μ l p b,
    ))
    (λ d. omega (
      arith,
      ap (load_of P (marking_with μ l p)) d,
      ap (load_of P μ) d,
      load_cut P (marking_with μ l p),
      load_cut P μ,
      cuts_marked place,
      bit-true (eqb 2 p) (eq-eqb 2 p d),
      gain_cut P μ l p (omega arith),
    ))
    p
    place.mark
    refl

-- every other mark has the load that it had
pub load_kept :
    {P : Pattern} {μ : Marking} {l p : ℕ} → Placeable P μ l p → (q : ℕ) → q ≤ mark_number Cut → (q ≡ p → ⊥) →
    load_of P (marking_with μ l p) q ≡ load_of P μ q
load_kept {P} {μ} {l} {p} place =
    by_mark
    (λ q. (q ≡ p → ⊥) → load_of P (marking_with μ l p) q ≡ load_of P μ q)
    (λ q n. load_part P (marking_with μ l p) q ∙ taken_same P μ l p q place.free n ∙ sym (load_part P μ q))
    (λ n. omega (
      arith,
      load_cut P (marking_with μ l p),
      load_cut P μ,
      cuts_marked place,
      bit-false (eqb 2 p) (ne_eqb 2 p n),
    ))

-- no part takes more than all nonzeros, and no more lines are cut than there are
pub load_most :
    (P : Pattern) (μ : Marking) (p : ℕ) → p ≤ mark_number Cut → load_of P μ p ≤ P.size + lines P
unfolding taken L1
load_most P μ =
    by_mark
    (λ p. load_of P μ p ≤ P.size + lines P)
    (λ q. omega (arith, load_part P μ q, count_most (takes P μ q) P.size))
    (omega (arith, load_cut P μ, count_most (λ z. says_cut (condition P μ z)) (lines P)))
