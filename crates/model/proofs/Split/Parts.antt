-- Laws of the two parts, and of lines that a split holds in a part or cuts.
-- Assumes nothing.
use mathlib.Core.Bool.{true, false}
use mathlib.Core.Path.{◌≡◌, refl, ◌∙◌, ap}
use Prim.Native.Nat.{ℕ, ◌≤◌, ◌<◌}
use native.Mathlib.Omega.{arith}
use Rattle.counting.specs.Tests.{◌and◌}
use Rattle.counting.proofs.Joined.{no_way, clash, and_intro}
use Rattle.counting.proofs.Counted.{any_intro}
use Rattle.model.specs.declared.Part.{Part}
use Rattle.model.specs.declared.Part.TheVariants.{Zero, One}
use Rattle.model.specs.declared.Caps.{Caps}
use Rattle.model.specs.Pattern.{Pattern, on}
use Rattle.model.specs.Split.{Split, Meets, part_number, other, same_part, holds, is_cut, load, cap_of}

-- a part is the same as itself
pub same_refl : (p : Part) → same_part p p ≡ true
same_refl Zero = refl
same_refl One = refl

-- a part equal to p is the same as p
pub same_of_eq : (p q : Part) → q ≡ p → same_part p q ≡ true
same_of_eq p q e = ap (same_part p) e ∙ same_refl p

-- parts that are the same are equal
pub same_is : (p q : Part) → same_part p q ≡ true → p ≡ q
same_is Zero Zero h = refl
same_is Zero One h = clash h refl
same_is One Zero h = clash h refl
same_is One One h = refl

-- a part that is not the same is the other
pub same_other : (p q : Part) → same_part p q ≡ false → same_part (other p) q ≡ true
unfolding other
same_other Zero Zero h = clash refl h
same_other Zero One h = refl
same_other One Zero h = refl
same_other One One h = clash refl h

-- the two parts differ
pub two_parts : {A : Type 0} → Zero ≡ One → A
two_parts e = let z : ◌≡◌ {A = ℕ} 0 1 = ap part_number e in no_way (omega arith)

-- a part is not the same as both
pub same_once : (q : Part) → same_part Zero q ≡ true → same_part One q ≡ false
same_once Zero h = refl
same_once One h = clash h refl

-- a line with a nonzero in p holds p
pub holds_intro :
    (P : Pattern) (σ : Split) (p : Part) (l t : ℕ) →
    t < P.size → on P l t ≡ true → same_part p (σ t) ≡ true → holds P σ p l ≡ true
unfolding holds
holds_intro P σ p l t b h e = any_intro (λ t. on P l t and same_part p (σ t)) P.size t b (and_intro h e)

-- a line that holds p and the other part is cut
pub cut_of_both :
    (P : Pattern) (σ : Split) (p : Part) (l : ℕ) →
    holds P σ p l ≡ true → holds P σ (other p) l ≡ true → is_cut P σ l ≡ true
unfolding is_cut other
cut_of_both P σ Zero l h g = and_intro h g
cut_of_both P σ One l h g = and_intro g h

-- a part of a split that meets both caps
pub part_fits : (P : Pattern) (caps : Caps) (σ : Split) (p : Part) → Meets P caps σ → load P σ p ≤ cap_of caps p
part_fits P caps σ Zero m = m.zero_fits
part_fits P caps σ One m = m.one_fits
