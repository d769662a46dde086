-- `answering::splitting::put_run` meets its contract.
-- Assumes nothing.
use Rattle.answering.proofs.Steps.{prints_answer, prints_refusal, ran-shown, ran_refused}
use Rattle.answering.proofs.splitting.put_run.Goals as goal

pub returns-in-Ok : goal.returns-in-Ok
returns-in-Ok c = prints_answer (ran-shown _ _ _ _ _ c.run-ran.ensures.answer c.in-Ok.is) c.put_search.ensures

pub returns-in-Err : goal.returns-in-Err
returns-in-Err c = prints_refusal (ran_refused _ _ _ _ _ c.run-ran.ensures.answer c.in-Err.is) c.put_refused.ensures
