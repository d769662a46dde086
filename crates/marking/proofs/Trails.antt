-- The trail's methods do to a trail what the walk does to a marking.
-- Assumes nothing.
use mathlib.Core.Bool.{Bool}
use mathlib.Core.List.{List, ◌∷◌}
use mathlib.Core.Path.{◌≡◌, refl, sym, ◌∙◌, ap}
use Prim.Native.Nat.{ℕ, zero, suc, ◌+◌, ◌≤◌, ◌<◌}
use native.Mathlib.Numerals.{add-one}
use native.Mathlib.Omega.{arith}
use lib.Dec.{eqb}
use lib.ListN.{length, get_or, set}
use lib.Seq.{get_or-set_other}
use borrow.Author.Tests.{lt-ltb, le-ltb, ne_eqb}
use Rattle.counting.specs.Tests.{◌or◌}
use Rattle.counting.proofs.Joined.{no_way, or_eq, or_fails, pick_true}
use Rattle.trail.specs.declared.Trail.{Trail}
use Rattle.trail.specs.Trail.{mark_room, trail_with, with_mark, appended, dropped, mark_or, is_part, gives_part_in, one_at}
use Rattle.trail.proofs.Methods.{dropped_at_lem}
use Rattle.model.specs.Walk.{gives_part, one_allowed}
use Rattle.model.specs.State.{stack, marks_in, array_of, trail_of}
use Rattle.model.proofs.State.Arrays.{array_dropped}
use Rattle.model.proofs.Order.Mirrored.{stack_eq}

-- one mark more
pub appended-is : (x : ℕ) (τ : List ℕ) → length τ < mark_room → appended (trail_of τ) x ≡ trail_of (x ∷ τ)
unfolding appended trail_of array_of
appended-is x τ b =
    pick_true (with_mark (trail_of τ) (length τ) x (length τ + 1)) (trail_of τ) (lt-ltb (length τ) mark_room b)
    ∙ ap (with_mark (trail_of τ) (length τ) x) (add-one (length τ))

-- without the last mark
pub dropped-is : (x : ℕ) (τ : List ℕ) → length τ < mark_room → dropped (trail_of (x ∷ τ)) ≡ trail_of τ
unfolding trail_of
dropped-is x τ b =
    dropped_at_lem (trail_of (x ∷ τ)) (length τ) refl b
    ∙ ap (λ (a : List ℕ). trail_with a (length τ)) (array_dropped x τ)

-- the marks before an index that the array has, as a marking
pub marks_before_lem : (marks : List ℕ) (d : ℕ) → d ≤ mark_room → stack (mark_or 0 marks) d ≡ stack (λ i. get_or marks i 0) d
unfolding mark_or
marks_before_lem marks d b =
    stack_eq
    (mark_or 0 marks)
    (λ i. get_or marks i 0)
    d
    (λ i c. pick_true (get_or marks i 0) 0 (lt-ltb i mark_room (omega arith)))

-- the marking of a trail, and of that without its last mark
pub marks_dropped : (t : Trail) (d : ℕ) → t.len ≡ suc d → d < mark_room → marks_in t ≡ get_or t.marks d 0 ∷ marks_in (dropped t)
unfolding marks_in stack
marks_dropped t d e b =
    ap (stack (λ i. get_or t.marks i 0)) e
    ∙ ap
    (get_or t.marks d 0 ∷◌)
    (sym
    (ap marks_in (dropped_at_lem t d e b)
    ∙ stack_eq
    (λ i. get_or (set t.marks d 0) i 0)
    (λ i. get_or t.marks i 0)
    d
    (λ i c. get_or-set_other t.marks d i 0 0 (λ f. no_way (omega arith)))))

-- a mark is a part's if it is 0 or 1
part_tests : (x : ℕ) → is_part x ≡ eqb x 0 or eqb x 1
unfolding ◌or◌
part_tests zero = refl
part_tests (suc zero) = refl
part_tests (suc (suc x)) =
    le-ltb (suc (suc x)) 2 (omega arith)
    ∙ sym (or_fails (ne_eqb (suc (suc x)) 0 (λ e. no_way (omega arith))) (ne_eqb (suc (suc x)) 1 (λ e. no_way (omega arith))))

-- some mark before an index is 0 or 1
pub gives_is : (marks : List ℕ) (d : ℕ) → gives_part_in marks d ≡ gives_part (stack (mark_or 0 marks) d)
unfolding gives_part_in gives_part stack
gives_is marks zero = refl
gives_is marks (suc d) = or_eq (part_tests (mark_or 0 marks d)) (gives_is marks d)

-- mark 1 is allowed at an index as behind the marks before it
pub one_at-is : (first : Bool) (marks : List ℕ) (d : ℕ) → one_at first marks d ≡ one_allowed first (stack (mark_or 0 marks) d)
unfolding one_at one_allowed
one_at-is first marks d = ap (λ (part : Bool). first or part) (gives_is marks d)
