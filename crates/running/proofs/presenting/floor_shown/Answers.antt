-- `running::presenting::floor_shown` meets its contract.
-- Assumes nothing.
use Prim.Native.Nat.{◌≤◌}
use native.Mathlib.Omega.{arith}
use Rattle.running.proofs.Budgets.{from-short, floor_readied, floor-taken}
use Rattle.running.proofs.Shows.{floor-done}
use Rattle.running.proofs.presenting.floor_shown.Goals as goal
use Rattle.running.proofs.presenting.floor_shown.Goals.{After-trail-1}

-- the trail has no more marks than there is room for
short : (c : After-trail-1) → c.normal-from.result.trail.len ≤ 600
short c =
    let r = c.args.ranked.now in
    omega (arith, from-short r c.args.search _ c.requires c.normal-from.ensures, r.made.ready.few)

pub returns-then-search : goal.returns-then-search
returns-then-search c = floor-done _ c.args.search c.if-search.true

pub overflow_mul-open : goal.overflow_mul-open
overflow_mul-open c = let h = short (goal.at.overflow_mul-open c).After-trail-1 in omega arith

pub overflow_add-open : goal.overflow_add-open
overflow_add-open c = let h = short (goal.at.overflow_add-open c).After-trail-1 in omega arith

pub run_from-after-requires : goal.run_from-after-requires
run_from-after-requires c =
    let h = short (goal.at.run_from-after-requires c).After-trail-1 in
    floor_readied c.args.ranked.now c.args.search _ c.requires c.normal-from.ensures _ (omega arith)

pub returns : goal.returns
returns c =
    floor-taken c.args.ranked.now c.args.search _ c.requires c.normal-from.ensures _ (omega arith) _ c.run_from-after.ensures
