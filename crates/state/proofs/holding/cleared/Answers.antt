use borrow.Author.Tests.{lt-ltb, le-ltb}
use mathlib.Core.List.{◌++◌}
use mathlib.Core.Path.{sym, ◌∙◌, ap}
use lib.ListN.{length, drop, length-take}
use Prim.Native.Nat.{◌≤◌}
use native.Mathlib.Omega.{arith}
use Rattle.counting.proofs.Joined.{pick_true, pick-false}
use Rattle.trail.specs.Trail.{mark_room}
use Rattle.state.specs.Holding.{cleared_to}
use Rattle.state.proofs.Cleared.{kept_copied, kept_trail, zeros_long}
use Rattle.state.proofs.holding.cleared.Goals as goal

pub returns-then-len-gt-MARK_ROOM : goal.returns-then-len-gt-MARK_ROOM
unfolding cleared_to
returns-then-len-gt-MARK_ROOM c = c.no_trail.ensures ∙ sym (pick_true _ _ (lt-ltb mark_room _ c.if-len-gt-MARK_ROOM.true))

pub returns : goal.returns
unfolding cleared_to
returns c =
    let trail = c.args.trail in
    let fits : trail.len ≤ mark_room = c.if-len-gt-MARK_ROOM.false in
    let copy = c.copy_from_slice.ensures in
    let none = c.no_marks-kept.ensures in
    let long : trail.len ≤ length trail.marks =
    omega (
      arith,
      copy.len,
      ap length copy.after,
      ap length none,
      zeros_long,
      length-take trail.len trail.marks,
      length-take trail.len c.no_marks-kept.result,
    ) in
    kept_trail
    trail
    _
    ((λ t. copy.after t ++ drop trail.len (none t)) ∙ kept_copied trail.marks trail.len fits long)
    ∙ sym (pick-false _ _ (le-ltb mark_room _ fits))
