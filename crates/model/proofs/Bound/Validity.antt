-- Laws of validity: the test passes just where no nonzero is taken by both parts and each part takes at most its cap.
-- Assumes nothing.
use mathlib.Core.Bool.{true, false, not}
use mathlib.Core.Path.{◌≡◌, ap}
use Prim.Native.Nat.{ℕ, ◌≤◌, ◌<◌}
use lib.Dec.{leb}
use borrow.Author.Tests.{leb-true, le-leb, not-true}
use Rattle.counting.specs.Tests.{◌and◌}
use Rattle.counting.specs.Sums.{count, any}
use Rattle.counting.proofs.Joined.{clash, fails, and_intro, and_left, and_right, and-other}
use Rattle.counting.proofs.Counted.{any_fails, any_none}
use Rattle.model.specs.declared.Part.{Part}
use Rattle.model.specs.declared.Part.TheVariants.{Zero, One}
use Rattle.model.specs.declared.Caps.{Caps}
use Rattle.model.specs.Pattern.{Pattern}
use Rattle.model.specs.Split.{cap_of}
use Rattle.model.specs.Marking.{Marking, takes, taken, valid}

-- what validity says: no nonzero is taken by both parts, and a part takes at most its cap
pub record Valid (P : Pattern) (caps : Caps) (ν : Marking) : Type 0 where
  pub once : (t : ℕ) → t < P.size → takes P ν Zero t ≡ true → takes P ν One t ≡ false
  pub fits : (p : Part) → count (takes P ν p) P.size ≤ cap_of caps p

-- a valid marking is so
pub valid_is : (P : Pattern) (caps : Caps) (ν : Marking) → valid P caps ν ≡ true → Valid P caps ν
unfolding valid taken
valid_is P caps ν h = record { once = once; fits = fits }
  where
    apart : not (any (λ t. takes P ν Zero t and takes P ν One t) P.size) and leb (taken P ν Zero) caps.cap0 ≡ true
    apart = and_left _ (leb (taken P ν One) caps.cap1) h

    once : (t : ℕ) → t < P.size → takes P ν Zero t ≡ true → takes P ν One t ≡ false
    once t b e =
        and-other
        (takes P ν Zero t)
        (takes P ν One t)
        (any_fails
        (λ t. takes P ν Zero t and takes P ν One t)
        P.size
        t
        (not-true _ (and_left _ (leb (taken P ν Zero) caps.cap0) apart))
        b)
        e

    fits : (p : Part) → count (takes P ν p) P.size ≤ cap_of caps p
    fits Zero = leb-true (taken P ν Zero) caps.cap0 (and_right _ (leb (taken P ν Zero) caps.cap0) apart)
    fits One = leb-true (taken P ν One) caps.cap1 (and_right _ (leb (taken P ν One) caps.cap1) h)

-- and a marking that is so is valid
pub is-valid : (P : Pattern) (caps : Caps) (ν : Marking) → Valid P caps ν → valid P caps ν ≡ true
unfolding valid taken
is-valid P caps ν f =
    and_intro
    (and_intro
    (ap not (any_none
    (λ t. takes P ν Zero t and takes P ν One t)
    P.size
    (λ t b. fails
    (takes P ν Zero t and takes P ν One t)
    (λ e. clash (and_right _ (takes P ν One t) e) (f.once t b (and_left (takes P ν Zero t) _ e))))))
    (le-leb (taken P ν Zero) caps.cap0 (f.fits Zero)))
    (le-leb (taken P ν One) caps.cap1 (f.fits One))
