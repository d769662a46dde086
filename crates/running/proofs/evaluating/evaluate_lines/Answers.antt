-- `running::evaluating::evaluate_lines` meets its contract.
-- Assumes nothing.
use mathlib.Core.Path.{sym, ◌∙◌}
use Rattle.counting.proofs.Joined.{never}
use Rattle.running.proofs.evaluating.evaluate_lines.Goals as goal

pub evaluate_listed-requires : goal.evaluate_listed-requires
evaluate_listed-requires c = sym c.list_verdict.ensures.verdict ∙ c.in-Ok.is

pub returns-in-Ok : goal.returns-in-Ok
returns-in-Ok c = λ accepted known. c.evaluate_listed.ensures known

pub returns-in-Err : goal.returns-in-Err
returns-in-Err c = λ accepted known. let e = c.list_verdict.ensures.verdict ∙ accepted in never (cc)
