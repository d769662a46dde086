-- `running::tally::change` meets its contract.
-- Assumes nothing.
use native.Mathlib.Omega.{arith}
use Rattle.keeping.proofs.Raises.{raised_by-store, lowered_by-store}
use Rattle.running.proofs.tally.change.Goals as goal

pub overflow_add-sums : goal.overflow_add-sums
overflow_add-sums c =
    let room = rw c.if-up.true at c.requires.2 in
    omega arith

pub overflow_sub-sums : goal.overflow_sub-sums
overflow_sub-sums c =
    let some = rw c.if-up.false at c.requires.2 in
    omega arith

pub returns-then-up : goal.returns-then-up
returns-then-up c =
    let a = c.args in
    rw c.if-up.true (raised_by-store a.sums.now a.at a.by (omega (arith, c.requires.0, c.requires.1)))

pub returns-else-up : goal.returns-else-up
returns-else-up c =
    let a = c.args in
    let some = rw c.if-up.false at c.requires.2 in
    rw c.if-up.false (lowered_by-store a.sums.now a.at a.by (omega (arith, c.requires.0, c.requires.1)) some)
