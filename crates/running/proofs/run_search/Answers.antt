-- `running::run_search` meets its contract.
-- Assumes nothing.
use mathlib.Core.Path.{sym, ◌∙◌}
use Rattle.running.proofs.Answered.{run_made, run_refused}
use Rattle.running.proofs.run_search.Goals as goal

pub returns-in-Ok : goal.returns-in-Ok
returns-in-Ok c = run_made _ _ _ _ _ _ _ _ (sym c.in-Ok.is ∙ c.run_checked.ensures) c.ended_as.ensures

pub returns-in-Err : goal.returns-in-Err
returns-in-Err c = run_refused _ _ _ _ _ _ _ (sym c.in-Err.is ∙ c.run_checked.ensures)
