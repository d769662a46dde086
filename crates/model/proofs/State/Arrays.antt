-- A marking written to an array reads back as itself, and is 0 past its length.
-- Assumes nothing.
use mathlib.Core.List.{List, [], ◌∷◌}
use mathlib.Core.Path.{◌≡◌, refl, sym, ◌∙◌, ap}
use Prim.Native.Nat.{ℕ, zero, suc, ◌≤◌, ◌<◌}
use native.Mathlib.Omega.{arith}
use lib.ListN.{length, get_or, set, replicate, length-set, length-replicate}
use lib.Seq.{get_or-set_same, get_or-set_other, set-set, set-get_or}
use Rattle.counting.proofs.Joined.{no_way}
use Rattle.trail.specs.Trail.{mark_room}
use Rattle.model.specs.State.{stack, array_of}
use Rattle.model.proofs.Order.Mirrored.{stack_eq}

-- the array has room for every line
pub array_length : (τ : List ℕ) → length (array_of τ) ≡ mark_room
unfolding array_of
array_length [] = length-replicate {A = ℕ} mark_room 0
array_length (x ∷ τ) = length-set (array_of τ) (length τ) x ∙ array_length τ

zeros : (n i : ℕ) → get_or {A = ℕ} (replicate n 0) i 0 ≡ 0
zeros zero i = refl
zeros (suc n) zero = refl
zeros (suc n) (suc i) = zeros n i

-- it is 0 past the marking's length
pub array_past : (τ : List ℕ) (i : ℕ) → length τ ≤ i → get_or (array_of τ) i 0 ≡ 0
unfolding array_of
array_past [] i h = zeros mark_room i
array_past (x ∷ τ) i h =
    get_or-set_other (array_of τ) (length τ) i x 0 (λ e. no_way (omega arith)) ∙ array_past τ i (omega arith)

-- its last mark
pub array_last : (x : ℕ) (τ : List ℕ) → length τ < mark_room → get_or (array_of (x ∷ τ)) (length τ) 0 ≡ x
unfolding array_of
array_last x τ h = get_or-set_same (array_of τ) (length τ) x 0 (omega (arith, array_length τ))

-- the marks before it
pub array_before :
    (x : ℕ) (τ : List ℕ) (i : ℕ) → i < length τ → get_or (array_of (x ∷ τ)) i 0 ≡ get_or (array_of τ) i 0
unfolding array_of
array_before x τ i h = get_or-set_other (array_of τ) (length τ) i x 0 (λ e. no_way (omega arith))

-- with 0 for its last mark the array is that of the marking before it
pub array_dropped : (x : ℕ) (τ : List ℕ) → set (array_of (x ∷ τ)) (length τ) 0 ≡ array_of τ
unfolding array_of
array_dropped x τ =
    set-set (array_of τ) (length τ) x 0
    ∙ ap (set (array_of τ) (length τ)) (sym (array_past τ (length τ) (omega arith)))
    ∙ set-get_or (array_of τ) (length τ) 0

-- the marking reads back as itself
pub array_stack : (τ : List ℕ) → length τ ≤ mark_room → stack (λ i. get_or (array_of τ) i 0) (length τ) ≡ τ
unfolding stack
array_stack [] h = refl
array_stack (x ∷ τ) h =
    ap (◌∷ stack (λ i. get_or (array_of (x ∷ τ)) i 0) (length τ)) (array_last x τ (omega arith))
    ∙ ap
    (x ∷◌)
    (stack_eq
    (λ i. get_or (array_of (x ∷ τ)) i 0)
    (λ i. get_or (array_of τ) i 0)
    (length τ)
    (λ i b. array_before x τ i b)
    ∙ array_stack τ (omega arith))
