-- `answering::splitting::put_opening` meets its contract.
-- Assumes nothing.
use mathlib.Core.Path.{sym, ◌∙◌}
use Rattle.answering.proofs.Steps.{prints_answer, prints_refusal, opened_run, opened_refused}
use Rattle.answering.proofs.splitting.put_opening.Goals as goal

pub returns-in-Ok : goal.returns-in-Ok
returns-in-Ok c = prints_answer (opened_run _ _ _ _ _ _ (sym c.open.ensures.answer ∙ c.in-Ok.is)) c.put_run.ensures

pub returns-in-Err : goal.returns-in-Err
returns-in-Err c = prints_refusal (opened_refused _ _ _ _ _ _ (sym c.open.ensures.answer ∙ c.in-Err.is)) c.put_refused.ensures
