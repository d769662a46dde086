-- A split that is written and read back is the same: it has its volume and meets its caps.
-- Assumes nothing.
use mathlib.Core.List.{List}
use mathlib.Core.Path.{◌≡◌, refl, sym, ◌∙◌, ap}
use mathlib.Core.Logic.{⊎_elim}
use Prim.Native.Nat.{ℕ, zero, suc, ◌≤◌, ◌<◌}
use native.Mathlib.Nat.{eq-or-lt_of_le, le_of_suc-le-suc}
use native.Mathlib.Omega.{arith}
use lib.Dec.{eqb}
use lib.ListN.{length, get_or, set, length-set}
use lib.Seq.{get_or-set_same, get_or-set_other}
use Rattle.counting.specs.Tests.{pick}
use Rattle.counting.proofs.Joined.{no_way}
use Rattle.model.specs.declared.Part.{Part}
use Rattle.model.specs.declared.Part.TheVariants.{Zero, One}
use Rattle.model.specs.declared.Caps.{Caps}
use Rattle.model.specs.Pattern.{Pattern}
use Rattle.model.specs.Split.{Split, Meets, part_number, volume}
use Rattle.model.specs.Calls.{part_bytes}
use Rattle.model.proofs.Alike.Patterns.{alike_self}
use Rattle.model.proofs.Alike.Splits.{volume_same, meets_same}
use Rattle.pattern.specs.Splits.{split_of}

-- writing parts keeps the length of the buffer
pub bytes-length : (σ : Split) (t : ℕ) (parts : List ℕ) → length (part_bytes σ t parts) ≡ length parts
unfolding part_bytes
bytes-length σ zero parts = refl
bytes-length σ (suc t) parts = length-set (part_bytes σ t parts) t (part_number (σ t)) ∙ bytes-length σ t parts

-- a byte that was written is its nonzero's part
pub byte_back :
    (σ : Split) (nonzeros t : ℕ) (parts : List ℕ) → nonzeros ≤ length parts → t < nonzeros →
    get_or (part_bytes σ nonzeros parts) t 0 ≡ part_number (σ t)
unfolding part_bytes
byte_back σ zero t parts fits b = no_way (omega arith)
byte_back σ (suc s) t parts fits b =
    ⊎_elim
    (λ e. ap (λ k. get_or (set (part_bytes σ s parts) s (part_number (σ s))) k 0) e
    ∙ get_or-set_same (part_bytes σ s parts) s (part_number (σ s)) 0 (omega (arith, bytes-length σ s parts))
    ∙ ap (λ k. part_number (σ k)) (sym e))
    (λ l. get_or-set_other (part_bytes σ s parts) s t (part_number (σ s)) 0 (λ e. no_way (omega arith))
    ∙ byte_back σ s t parts (omega arith) l)
    (eq-or-lt_of_le (le_of_suc-le-suc b))

-- a byte past the nonzeros stays
pub bytes_rest :
    (σ : Split) (nonzeros i : ℕ) (parts : List ℕ) → nonzeros ≤ i → get_or (part_bytes σ nonzeros parts) i 0 ≡ get_or parts i 0
unfolding part_bytes
bytes_rest σ zero i parts l = refl
bytes_rest σ (suc t) i parts l =
    get_or-set_other (part_bytes σ t parts) t i (part_number (σ t)) 0 (λ e. no_way (omega arith))
    ∙ bytes_rest σ t i parts (omega arith)

-- the part of a part's number
part_back : (p : Part) → pick (eqb (part_number p) 0) Zero One ≡ p
unfolding pick
part_back Zero = refl
part_back One = refl

-- a split that was written is read back
pub split-back :
    (σ : Split) (nonzeros t : ℕ) (parts : List ℕ) → nonzeros ≤ length parts → t < nonzeros →
    split_of (part_bytes σ nonzeros parts) t ≡ σ t
unfolding split_of
split-back σ nonzeros t parts fits b =
    ap (λ (x : ℕ). pick (eqb x 0) Zero One) (byte_back σ nonzeros t parts fits b) ∙ part_back (σ t)

-- and its volume
pub volume-back :
    (P : Pattern) (σ : Split) (parts : List ℕ) → P.size ≤ length parts →
    volume P (split_of (part_bytes σ P.size parts)) ≡ volume P σ
volume-back P σ parts fits =
    volume_same (alike_self P) (split_of (part_bytes σ P.size parts)) σ (λ t b. split-back σ P.size t parts fits b)

-- and it meets the same caps
pub meets-back :
    (P : Pattern) (caps : Caps) (σ : Split) (parts : List ℕ) → P.size ≤ length parts → Meets P caps σ →
    Meets P caps (split_of (part_bytes σ P.size parts))
meets-back P caps σ parts fits meets =
    meets_same
    (alike_self P)
    σ
    (split_of (part_bytes σ P.size parts))
    (λ t b. sym (split-back σ P.size t parts fits b))
    caps
    meets
