-- The bound is sound: it is at most the volume of every split that meets both caps and agrees with the marking.
-- Assumes nothing.
use mathlib.Core.Bool.{true, false}
use mathlib.Core.Path.{◌≡◌}
use Prim.Native.Nat.{ℕ, ◌≤◌, ◌<◌}
use native.Mathlib.Omega.{arith}
use Rattle.counting.specs.Sums.{count}
use Rattle.counting.proofs.Joined.{clash, passes}
use Rattle.model.specs.declared.Part.{Part}
use Rattle.model.specs.declared.Caps.{Caps}
use Rattle.model.specs.Pattern.{Pattern, Inside, on}
use Rattle.model.specs.Split.{Split, Meets, other, same_part, is_cut, load, volume, cap_of}
use Rattle.model.specs.Marking.{Marking, Agrees}
use Rattle.model.specs.Bound.{bound}
use Rattle.model.proofs.Split.Parts.{same_of_eq, same_once, same_other, holds_intro, cut_of_both, part_fits}
use Rattle.model.proofs.Split.Volume.{volume-is-cuts}
use Rattle.model.proofs.Bound.Division.{Division}
use Rattle.model.proofs.Bound.BelowDivision.{bound_below_division}

-- a line that a split does not cut has all its nonzeros in the part of one of them
split-whole :
    (P : Pattern) (σ : Split) (p : Part) (l s t : ℕ) → is_cut P σ l ≡ false → s < P.size → t < P.size →
    on P l s ≡ true → on P l t ≡ true → same_part p (σ s) ≡ true → same_part p (σ t) ≡ true
split-whole P σ p l s t uncut b c g h e =
    passes
    (same_part p (σ t))
    (λ away. clash
    (cut_of_both P σ p l (holds_intro P σ p l s b g e) (holds_intro P σ (other p) l t c h (same_other p (σ t) away)))
    uncut)

-- the load of a part is the number of nonzeros that go to it
split_fits :
    (P : Pattern) (caps : Caps) (σ : Split) (p : Part) → Meets P caps σ → count (λ t. same_part p (σ t)) P.size ≤ cap_of caps p
unfolding load
split_fits P caps σ p meets = part_fits P caps σ p meets

-- a split that meets both caps and agrees with a marking is a division that extends it
pub split_division :
    (P : Pattern) (caps : Caps) (μ : Marking) (σ : Split) →
    Meets P caps σ → Agrees P μ σ → Division P caps μ (λ p t. same_part p (σ t)) (is_cut P σ)
split_division P caps μ σ meets agrees =
    record {
      taken_given = λ p t b h. same_of_eq p (σ t) (agrees.in-part p t b h);
      marked_cut = agrees.cut_line;
      once = λ t b h. same_once (σ t) h;
      fits = λ p. split_fits P caps σ p meets;
      whole = λ p l s t b. split-whole P σ p l s t;
    }

-- the bound is at most the volume of every split that meets both caps and agrees with the marking
pub bound_sound :
    (P : Pattern) (caps : Caps) (μ : Marking) (σ : Split) →
    Inside P → Meets P caps σ → Agrees P μ σ → bound P caps μ ≤ volume P σ
bound_sound P caps μ σ i meets agrees =
    omega (
      arith,
      volume-is-cuts P σ,
      bound_below_division P caps μ (λ p t. same_part p (σ t)) (is_cut P σ) i (split_division P caps μ σ meets agrees),
    )
