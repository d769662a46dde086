-- `running::deciding::cap_of` meets its contract.
-- Assumes nothing.
use Rattle.judging.proofs.Bounds.{cap_zero, cap_one}
use Rattle.running.proofs.deciding.cap_of.Goals as goal

pub returns-then-p-eq0 : goal.returns-then-p-eq0
returns-then-p-eq0 c = cap_zero c.args.caps c.args.p c.if-p-eq0.true

pub returns-else-p-eq0 : goal.returns-else-p-eq0
returns-else-p-eq0 c = cap_one c.args.caps c.args.p c.if-p-eq0.false
