use mathlib.Core.List.{List, ◌∷◌}
use mathlib.Core.Path.{ap, subst}
use Prim.Native.Nat.{ℕ, ◌<◌, ◌≤◌}
use native.Mathlib.Omega.{arith}
use lib.ListN.{length}
use Rattle.std.proofs.lemmas.List.{length-take, get_or-take}
use Rattle.counting.proofs.Joined.{no_way}
use Rattle.trail.specs.Trail.{mark_room}
use Rattle.trail.specs.declared.Trail.{Trail}
use Rattle.model.specs.State.{trail_of}
use Rattle.packing.specs.Packed.{Packs}
use Rattle.packing.proofs.Copying.{packed_none, packed_more, packed_all}
use Rattle.packing.proofs.packed.Goals as goal

pub returns-then-trail-gt-MARK_ROOM : goal.returns-then-trail-gt-MARK_ROOM
unfolding trail_of
returns-then-trail-gt-MARK_ROOM c τ b h same = no_way (omega (arith, c.if-trail-gt-MARK_ROOM.true, ap (λ (x : Trail). x.len) same))

pub loop-mark-init : goal.loop-mark-init
loop-mark-init c are = packed_none _ c.args.trail.marks c.empty-t.ensures

pub loop-mark-preserved : goal.loop-mark-preserved
loop-mark-preserved c are =
    let l = c.loop-mark in
    let marks = c.args.trail.marks in
    let below : l.mark-index < c.args.trail.len = omega (arith, length-take c.args.trail.len marks) in
    packed_more l.t _ marks l.mark-index (l.invariant are) (omega arith) (are l.mark-index below)
    (subst
    (λ (v : ℕ). (τ : List ℕ) → Packs l.t τ → length τ < mark_room → v ≤ 2 → Packs c.append-t.result (v ∷ τ))
    (get_or-take c.args.trail.len marks l.mark-index 0 below)
    c.append-t.ensures)

pub returns : goal.returns
returns c τ b h same =
    let l = c.loop-mark in
    packed_all l.t _ l.mark-index τ l.invariant (omega (arith, length-take c.args.trail.len c.args.trail.marks)) b h same
