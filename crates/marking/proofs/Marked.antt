-- Laws of the marks of lines in an array.
-- Assumes nothing.
use mathlib.Core.List.{List}
use mathlib.Core.Path.{◌≡◌, sym, ◌∙◌, ap}
use Prim.Native.Nat.{ℕ, ◌≤◌, ◌<◌}
use native.Mathlib.Omega.{arith}
use lib.Dec.{ltb}
use lib.ListN.{length, get_or}
use borrow.Author.Tests.{lt-ltb, le-ltb, ltb-true, ltb-false}
use Rattle.counting.proofs.Joined.{by_test, and_intro, and_fails_left, and_fails_right, pick_true, pick-false}
use Rattle.trail.specs.Trail.{mark_room}
use Rattle.model.specs.Marking.{unmarked, mark_at}
use Rattle.model.specs.State.{array_of}
use Rattle.model.proofs.Order.Marks.{mark_past}
use Rattle.model.proofs.Order.SplitMarks.{stack_mark}
use Rattle.model.proofs.State.Arrays.{array_stack}
use Rattle.marking.specs.Marks.{mark_by}

-- the mark at a place
pub mark_by_lem : (marks : List ℕ) (len i : ℕ) → i < len → i < mark_room → mark_by marks len i ≡ get_or marks i 0
unfolding mark_by
mark_by_lem marks len i b c =
    pick_true (get_or marks i 0) unmarked (and_intro (lt-ltb i len b) (lt-ltb i mark_room c))

-- there is none past the last, or past the array's end
pub mark_by_past : (marks : List ℕ) (len i : ℕ) → len ≤ i → mark_by marks len i ≡ unmarked
unfolding mark_by
mark_by_past marks len i b = pick-false (get_or marks i 0) unmarked (and_fails_left (ltb i mark_room) (le-ltb i len b))

pub mark_by_out : (marks : List ℕ) (len i : ℕ) → mark_room ≤ i → mark_by marks len i ≡ unmarked
unfolding mark_by
mark_by_out marks len i b = pick-false (get_or marks i 0) unmarked (and_fails_right (ltb i len) (le-ltb i mark_room b))

-- the marks in a marking's array are the marking's
pub mark_by-is : (τ : List ℕ) (i : ℕ) → length τ ≤ mark_room → mark_by (array_of τ) (length τ) i ≡ mark_at τ i
mark_by-is τ i b =
    by_test
    (ltb i (length τ))
    (λ e. let c = ltb-true i (length τ) e in
    mark_by_lem (array_of τ) (length τ) i c (omega arith)
    ∙ sym (stack_mark (λ j. get_or (array_of τ) j 0) (length τ) i c)
    ∙ ap (λ (ν : List ℕ). mark_at ν i) (array_stack τ b))
    (λ e. let c = ltb-false i (length τ) e in mark_by_past (array_of τ) (length τ) i c ∙ sym (mark_past τ i c))
