-- Laws of markings cleared past their length.
-- Assumes nothing.
use mathlib.Core.List.{List, [], ◌∷◌, ◌++◌, append_assoc}
use mathlib.Core.Path.{◌≡◌, refl, sym, ◌∙◌, ap}
use Prim.Native.Nat.{ℕ, zero, suc, ◌≤◌, ◌<◌}
use native.Mathlib.Omega.{arith}
use lib.ListN.{length, get_or, set, take, drop, length-replicate, length-take}
use lib.Seq.{take-suc, drop-cons, set-append_seam}
use Rattle.trail.specs.Trail.{mark_room}
use Rattle.trail.specs.declared.Trail.{Trail}
use Rattle.trail.specs.Trail.{trail_with}
use Rattle.model.specs.State.{stack, marks_in, array_of, trail_of}
use Rattle.model.proofs.Order.SplitMarks.{stack-length}

-- the first marks of an array, and 0 past them
unfoldable pub kept_to : List ℕ → ℕ → List ℕ
kept_to marks i = array_of (stack (λ j. get_or marks j 0) i)

pub kept_none : (marks : List ℕ) → kept_to marks 0 ≡ array_of []
unfolding kept_to stack
kept_none marks = refl

-- one mark more
pub kept_more : (marks : List ℕ) (i : ℕ) → set (kept_to marks i) i (get_or marks i 0) ≡ kept_to marks (suc i)
unfolding kept_to stack array_of
kept_more marks i =
    ap
    (λ (d : ℕ). set (array_of (stack (λ j. get_or marks j 0) i)) d (get_or marks i 0))
    (sym (stack-length (λ j. get_or marks j 0) i))

-- they are copied over as many zeros
seam : (xs ys zs : List ℕ) (i x y : ℕ) → length xs ≡ i → ys ≡ y ∷ zs → set (xs ++ ys) i x ≡ (xs ++ x ∷ []) ++ zs
seam xs ys zs i x y l e =
    (λ t. set (xs ++ e t) (sym l t) x) ∙ set-append_seam xs y zs x ∙ sym (append_assoc xs (x ∷ []) zs)

pub zeros_long : length (array_of []) ≡ mark_room
unfolding array_of
zeros_long = length-replicate {A = ℕ} mark_room 0

pub kept_copied :
    (marks : List ℕ) (i : ℕ) → i ≤ mark_room → i ≤ length marks → take i marks ++ drop i (array_of []) ≡ kept_to marks i
kept_copied marks zero b e = sym (kept_none marks)
kept_copied marks (suc i) b e =
    let h : i < length marks = omega arith in
    let k : i < length (array_of []) = omega (arith, zeros_long) in
    let l : length (take i marks) ≡ i = omega (arith, length-take i marks) in
    ap (λ (xs : List ℕ). xs ++ drop (suc i) (array_of [])) (take-suc marks i 0 h)
    ∙ sym (seam (take i marks) (drop i (array_of [])) (drop (suc i) (array_of [])) i (get_or marks i 0) _ l (drop-cons (array_of []) i 0 k))
    ∙ ap (λ (xs : List ℕ). set xs i (get_or marks i 0)) (kept_copied marks i (omega arith) (omega arith))
    ∙ kept_more marks i

-- the trail of the marks kept
pub kept_trail :
    (trail : Trail) (kept : List ℕ) → kept ≡ kept_to trail.marks trail.len →
    trail_with kept trail.len ≡ trail_of (marks_in trail)
unfolding kept_to trail_of marks_in
kept_trail trail kept k =
    λ t. record {
      marks = k t;
      len = sym (stack-length (λ j. get_or trail.marks j 0) trail.len) t;
    }
