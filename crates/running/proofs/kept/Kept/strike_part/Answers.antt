-- `running::kept::Kept::strike_part` meets its contract.
-- Assumes nothing.
use native.Mathlib.Omega.{arith}
use Rattle.judging.proofs.Bounds.{struck-by}
use Rattle.running.proofs.kept.Kept.strike_part.Goals as goal

pub returns : goal.returns
returns c =
    let a = c.args in
    struck-by
    a.self.now.tally
    a.self.now.sums
    a.self.now.loads
    a.caps
    a.top
    a.p
    c.strike.result
    _
    _
    c.strike.ensures
    (omega arith)
    (omega arith)
