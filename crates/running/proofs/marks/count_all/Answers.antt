-- `running::marks::count_all` meets its contract. That the line whose count is changed is the one that was read is an equation of its own.
-- Assumes nothing.
use mathlib.Core.Bool.{not}
use mathlib.Core.Path.{◌≡◌, sym}
use Prim.Native.Nat.{◌+◌, ◌<◌}
use native.Mathlib.Omega.{arith}
use lib.ListN.{get_or}
use Rattle.model.specs.Pattern.{Pattern, lines}
use Rattle.crossing.specs.Crossing.{Laid}
use Rattle.keeping.proofs.Standing.{Turn, turn_line, turn_few, turn_within}
use Rattle.running.proofs.Passes.{Asked_all, asked_all, asks_same, by_same, left_same, pass_begins, pass_ends, pass_asks, pass_kind, pass_more}
use Rattle.running.proofs.marks.count_all.Goals as goal
use Rattle.running.proofs.marks.count_all.Goals.{Start, After-from-y}

-- what is asked, for both ways
asked_here : (c : Start) →
    let a = c.args in
    Asked_all a.taken a.starts.now a.cross.now a.marks.now a.by.now a.left.now a.kinds.now a.tally.now a.sums.now a.l a.p
asked_here c =
    let a = c.args in
    asked_all a.taken a.starts.now a.cross.now a.marks.now a.by.now a.left.now a.kinds.now a.tally.now a.sums.now a.l a.p c.requires

-- the turn of the loop at the crossing line that has been read
at_turn : (c : After-from-y) →
    let a = c.args in
    (P : Pattern) → Laid P a.starts.now a.cross.now → a.l < lines P →
    Turn P a.starts.now a.cross.now a.l c.loop-i.i c.from-y.result
at_turn c P laid line =
    record {
      laid = laid;
      line = line;
      from = omega (arith, c.from-from.ensures);
      to = omega (arith, c.from-end.ensures);
      here = c.from-y.ensures;
    }

pub loop-i-init : goal.loop-i-init
loop-i-init c P μ laid line free stage =
    let a = c.args in
    pass_begins P μ a.p a.starts.now a.cross.now _ _ _ _ _ _ a.l a.taken c.from-from.result laid line (sym c.from-from.ensures) stage

pub bounds-cross-i : goal.bounds-cross-i
bounds-cross-i c =
    let k = asked_here (goal.at.bounds-cross-i c).Start in
    omega (arith, c.from-end.ensures, k.laid.within c.args.l k.line)

pub count_one-requires : goal.count_one-requires
count_one-requires c =
    let a = c.args in
    let k = asked_here (goal.at.count_one-requires c).Start in
    let turn = at_turn (goal.at.count_one-requires c).After-from-y k.pattern k.laid k.line in
    asks_same
    a.taken
    _
    _
    _
    _
    _
    a.p
    _
    c.from-y.result
    (pass_asks _ _ _ _ _ _ _ _ _ _ _ _ _ _ turn k.part k.free a.taken (c.loop-i.invariant k.pattern k.μ k.laid k.line k.free k.stage))
    (omega arith)

pub bounds-by-p : goal.bounds-by-p
bounds-by-p c =
    let k = asked_here (goal.at.bounds-by-p c).Start in
    let turn = at_turn (goal.at.bounds-by-p c).After-from-y k.pattern k.laid k.line in
    omega (arith, turn_within turn, k.part)

pub settle_if-requires : goal.settle_if-requires
settle_if-requires c =
    let a = c.args in
    let k = asked_here (goal.at.settle_if-requires c).Start in
    let turn = at_turn (goal.at.settle_if-requires c).After-from-y k.pattern k.laid k.line in
    let stage = c.loop-i.invariant k.pattern k.μ k.laid k.line k.free k.stage in (
      record {
        pattern = k.pattern;
        laid = k.laid;
        tied = c.count_one.ensures.2 k.pattern (turn_few turn) (omega (arith, turn_line turn)) stage.tied;
        kinds_long = stage.agree.kinds_long;
        line = turn_line turn;
      },
      λ f. pass_kind _ _ _ _ _ _ _ _ _ _ _ _ _ _ turn k.part k.free a.taken _ stage (by_same a.taken _ _ a.p _ c.from-y.result c.count_one.ensures.0 (omega arith)) (rw c.from.ensures at f),
    )

pub loop-i-preserved : goal.loop-i-preserved
loop-i-preserved c P μ laid line free stage =
    let a = c.args in
    let k = asked_here (goal.at.loop-i-preserved c).Start in
    let turn = at_turn (goal.at.loop-i-preserved c).After-from-y P laid line in
    let now = c.loop-i.invariant P μ laid line free stage in
    pass_more
    _
    _
    _
    _
    _
    _
    _
    _
    _
    _
    _
    _
    _
    _
    turn
    k.part
    free
    a.taken
    _
    _
    _
    _
    _
    now
    (by_same a.taken _ _ a.p _ c.from-y.result c.count_one.ensures.0 (omega arith))
    (left_same (not a.taken) _ _ _ c.from-y.result c.count_one.ensures.1 (omega arith))
    record { long = c.settle_if.ensures.0; kind_is = c.settle_if.ensures.1 }
    (c.settle_if.ensures.2 P laid (turn_line turn) (c.count_one.ensures.2 P (turn_few turn) (omega (arith, turn_line turn)) now.tied))

pub returns : goal.returns
returns c P μ laid line free stage =
    let a = c.args in
    let end : c.loop-i.i ≡ get_or a.starts.now (a.l + 1) 0 =
    omega (arith, c.from-from.ensures, c.from-end.ensures, c.loop-i.auto.i-end (omega (arith, laid.rises a.l line)), c.loop-i-test.false) in
    pass_ends P μ a.p a.starts.now a.cross.now _ _ _ _ _ _ a.l a.taken c.loop-i.i laid line end (c.loop-i.invariant P μ laid line free stage)
