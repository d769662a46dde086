-- `running::kept::Kept::least_with` meets its contract.
-- Assumes nothing.
use mathlib.Core.Path.{refl, sym}
use native.Mathlib.Omega.{arith}
use Rattle.judging.proofs.Bounds.{matched_reaches, zero_reaches, struck_reaches, none_reaches}
use Rattle.running.proofs.kept.Kept.least_with.Goals as goal

pub returns-then-best-sure : goal.returns-then-best-sure
returns-then-best-sure c =
    let a = c.args in
    sym (matched_reaches a.self.now.tally a.self.now.sums a.self.now.loads a.caps a.top a.matched a.best (omega arith))

pub returns-then-need-zero : goal.returns-then-need-zero
returns-then-need-zero c =
    let a = c.args in
    sym (zero_reaches a.self.now.tally a.self.now.sums a.self.now.loads a.caps a.top a.matched a.best (omega arith))

pub returns-then-need-zero-2 : goal.returns-then-need-zero-2
returns-then-need-zero-2 c =
    let a = c.args in
    sym (struck_reaches a.self.now.tally a.self.now.sums a.self.now.loads a.caps a.top a.matched a.best (omega arith))

pub returns : goal.returns
returns c =
    let a = c.args in
    let one = c.strike_part-one in
    let zero = c.strike_part-zero in
    let e = none_reaches a.self.now.tally a.self.now.sums a.self.now.loads a.caps a.top a.matched a.best zero.result one.result _ zero.ensures one.ensures refl (omega arith) (omega arith) (omega arith) in
    omega (arith, e)
