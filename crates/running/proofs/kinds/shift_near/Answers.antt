-- `running::kinds::shift_near` meets its contract.
-- Assumes nothing.
use mathlib.Core.Path.{◌≡◌, refl, sym, ◌∙◌}
use Prim.Native.Nat.{◌+◌, ◌*◌}
use native.Mathlib.Omega.{arith}
use lib.ListN.{get_or}
use Rattle.keeping.specs.Tied.{near_place}
use Rattle.keeping.proofs.Standing.{Turn, turn_within}
use Rattle.running.proofs.Ways.{ways_nothing, ways_start, ways_long, ways_room, ways_more, ways_end}
use Rattle.running.proofs.kinds.shift_near.Goals as goal
use Rattle.running.proofs.kinds.shift_near.Goals.{After-from-in-loop-i}

-- the place in the loop where a crossing line has been read
abbrev LineRead : Type 0
LineRead =
    After-from-in-loop-i

-- the turn of the loop at that line
own_turn : (c : LineRead) →
    Turn c.requires.pattern c.args.starts.now c.args.cross.now c.args.y c.loop-i.i c.from-in-loop-i.result
own_turn c =
    let q = c.requires in
    record {
      laid = q.laid;
      line = q.line;
      from = omega (arith, c.from-from.ensures);
      to = omega (arith, c.from-end.ensures);
      here = c.from-in-loop-i.ensures;
    }

-- its place in the tally
own-place : (c : LineRead) →
    602 + 1024 * c.from.result + c.from-in-loop-i.result ≡ near_place c.args.kind c.from-in-loop-i.result
own-place c = omega (arith, c.from.ensures)

pub loop-i-init : goal.loop-i-init
loop-i-init c =
    let a = c.args in
    ways_start a.up a.kind _ a.cross.now (get_or a.starts.now a.y 0) c.from-from.result (sym c.from-from.ensures)

pub bounds-cross-i : goal.bounds-cross-i
bounds-cross-i c = omega (arith, c.from-end.ensures, c.requires.laid.within c.args.y c.requires.line)

pub step-requires : goal.step-requires
step-requires c =
    let a = c.args in
    let inv = c.loop-i.invariant in
    let leans = c.if-kind-lt2.true in
    let turn = own_turn (goal.at.step-requires c).After-from-in-loop-i in
    let place = own-place (goal.at.step-requires c).After-from-in-loop-i in (
      ways_long a.up _ _ _ _ inv ∙ c.requires.tally_long,
      omega (arith, leans, place, turn_within turn),
      ways_room _ _ _ _ _ _ _ _ _ a.up c.requires turn leans place inv,
    )

pub loop-i-preserved : goal.loop-i-preserved
loop-i-preserved c =
    let a = c.args in
    let turn = own_turn (goal.at.loop-i-preserved c).After-from-in-loop-i in
    let place = own-place (goal.at.loop-i-preserved c).After-from-in-loop-i in
    ways_more _ _ _ _ _ _ _ _ _ a.up _ _ turn c.if-kind-lt2.true place c.requires.tally_long c.loop-i.invariant c.step.ensures

pub returns-after-loop-i : goal.returns-after-loop-i
returns-after-loop-i c P laid line =
    let a = c.args in
    let end : get_or a.starts.now (a.y + 1) 0 ≡ c.loop-i.i =
    omega (arith, c.loop-i.auto.i-end (omega (arith, laid.rises a.y line)), c.loop-i-test.false) in
    ways_end a.up _ _ _ _ _ _ laid a.y (get_or a.starts.now a.y 0) c.loop-i.i line refl end c.loop-i.invariant

pub returns-else-kind-lt2 : goal.returns-else-kind-lt2
returns-else-kind-lt2 c P laid line = ways_nothing c.args.up _ _ _ c.if-kind-lt2.false
