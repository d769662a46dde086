-- Laws of the trail's methods.
-- Assumes nothing.
use mathlib.Core.Bool.{false}
use mathlib.Core.List.{List}
use mathlib.Core.Path.{◌≡◌, refl, ◌∙◌, ap}
use Prim.Native.Nat.{ℕ, suc, ◌+◌, ◌-◌, ◌<◌}
use native.Mathlib.Numerals.{add-one}
use native.Mathlib.Omega.{arith}
use lib.Dec.{ltb}
use borrow.Author.Tests.{lt-ltb, le-ltb}
use Rattle.counting.specs.Tests.{◌or◌, pick}
use Rattle.counting.proofs.Joined.{pick_true, pick-false}
use Rattle.trail.specs.declared.Trail.{Trail}
use Rattle.trail.specs.Trail.{mark_room, top_of, with_mark, dropped, dropped_at, mark_or, is_part, gives_part_in}

-- no mark before the first, and one mark more
pub gives_none : (marks : List ℕ) → gives_part_in marks 0 ≡ false
unfolding gives_part_in
gives_none marks = refl

pub gives_more : (marks : List ℕ) (i : ℕ) → gives_part_in marks (i + 1) ≡ is_part (mark_or 0 marks i) or gives_part_in marks i
unfolding gives_part_in
gives_more marks i = ap (gives_part_in marks) (add-one i)

-- the last index of some marks
pub top_suc : (d : ℕ) → top_of (suc d) ≡ d
unfolding top_of
top_suc d =
    let e : suc d - 1 ≡ d = omega arith in
    pick_true (suc d - 1) mark_room (lt-ltb 0 (suc d) (omega arith)) ∙ e

pub top_none : top_of 0 ≡ mark_room
unfolding top_of
top_none = pick-false (0 - 1) mark_room (le-ltb 0 0 (omega arith))

-- what is done at the last index of some marks, and of none
pub at_top :
    {A : Type 0} (f : ℕ → A) (other : A) (len d : ℕ) → len ≡ suc d → d < mark_room →
    pick (ltb (top_of len) mark_room) (f (top_of len)) other ≡ f d
at_top f other len d e b =
    let at : top_of len ≡ d = ap top_of e ∙ top_suc d in
    pick_true (f (top_of len)) other (lt-ltb (top_of len) mark_room (omega arith)) ∙ ap f at

pub at_none : {A : Type 0} (x other : A) → pick (ltb (top_of 0) mark_room) x other ≡ other
at_none x other = pick-false x other (le-ltb (top_of 0) mark_room (omega (arith, top_none)))

-- dropping leaves one mark less
pub dropped_at_lem : (t : Trail) (d : ℕ) → t.len ≡ suc d → d < mark_room → dropped t ≡ with_mark t d 0 d
unfolding dropped dropped_at
dropped_at_lem t d e b = at_top (λ (at : ℕ). with_mark t at 0 at) t t.len d e b

pub dropped-length : (t : Trail) (d : ℕ) → t.len ≡ suc d → d < mark_room → (dropped t).len ≡ d
dropped-length t d e b = ap (λ (x : Trail). x.len) (dropped_at_lem t d e b)
