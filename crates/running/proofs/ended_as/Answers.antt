-- `running::ended_as` meets its contract.
-- Assumes nothing.
use mathlib.Core.Bool.{Bool}
use mathlib.Core.Path.{sym, ap}
use Rattle.model.specs.Calls.{ended}
use Rattle.running.proofs.ended_as.Goals as goal

pub returns-then-complete : goal.returns-then-complete
unfolding ended
returns-then-complete c = sym (ap (λ (b : Bool). ended b c.args.looks) c.if-complete.true)

pub returns-else-complete : goal.returns-else-complete
unfolding ended
returns-else-complete c = sym (ap (λ (b : Bool). ended b c.args.looks) c.if-complete.false)
