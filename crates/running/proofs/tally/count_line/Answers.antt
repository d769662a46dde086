-- `running::tally::count_line` meets its contract.
-- Assumes nothing.
use mathlib.Core.Path.{◌≡◌}
use native.Mathlib.Omega.{arith}
use Rattle.counting.specs.Tests.{pick}
use Rattle.keeping.specs.Moves.{near_in}
use Rattle.keeping.proofs.Raises.{adds_nothing}
use Rattle.running.proofs.Ways.{asked, added-torn, added-nothing}
use Rattle.running.proofs.tally.count_line.Goals as goal

pub lean-requires : goal.lean-requires
unfolding near_in pick
lean-requires c = (omega arith, rw c.in-0.is at c.requires)

pub lean-requires-in-1 : goal.lean-requires-in-1
unfolding near_in pick
lean-requires-in-1 c = (omega arith, rw c.in-1.is at c.requires)

pub change-requires : goal.change-requires
change-requires c =
    let k = asked c.args.up _ _ _ _ _ _ c.requires in
    let torn : c.args.kind ≡ 3 = c.in-3.is in
    (k.sums_long, omega arith, k.torn torn)

pub returns-in-0 : goal.returns-in-0
unfolding near_in pick
returns-in-0 c = rw c.in-0.is c.lean.ensures

pub returns-in-1 : goal.returns-in-1
unfolding near_in pick
returns-in-1 c = rw c.in-1.is c.lean-in-1.ensures

pub returns-in-3 : goal.returns-in-3
returns-in-3 c =
    let k = asked c.args.up _ _ _ _ _ _ c.requires in
    rw c.in-3.is (added-torn c.args.up _ _ _ _ _ _ k.sums_long c.change.ensures)

pub returns-in_default : goal.returns-in_default
returns-in_default c = added-nothing c.args.up _ _ _ _ _ _ (adds_nothing (omega arith) (λ e. omega arith))
