-- `answering::splitting::put_pattern` meets its contract.
-- Assumes nothing.
use mathlib.Core.Path.{sym, ◌∙◌}
use Rattle.answering.proofs.Steps.{prints_answer, prints_refusal, capped-opened, capped_refused}
use Rattle.answering.proofs.splitting.put_pattern.Goals as goal

pub returns-in-Ok : goal.returns-in-Ok
returns-in-Ok c = prints_answer (capped-opened _ _ _ _ _ (sym c.cap_from_percent.ensures.answer ∙ c.in-Ok.is)) c.put_opening.ensures

pub returns-in-Err : goal.returns-in-Err
returns-in-Err c = prints_refusal (capped_refused _ _ _ _ _ (sym c.cap_from_percent.ensures.answer ∙ c.in-Err.is)) c.put_refused.ensures
