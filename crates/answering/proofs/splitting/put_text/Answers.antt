-- `answering::splitting::put_text` meets its contract.
-- Assumes nothing.
use mathlib.Core.Path.{sym, ◌∙◌}
use Rattle.answering.proofs.Steps.{prints_answer, prints_refusal, text_given, text_refused}
use Rattle.answering.proofs.splitting.put_text.Goals as goal

pub returns-in-Ok : goal.returns-in-Ok
returns-in-Ok c =
    prints_answer (text_given c.args.text.now _ _ (sym c.read.ensures.answer ∙ c.in-Ok.is) ∙ rw c.read.ensures.list) c.put_pattern.ensures

pub returns-in-Err : goal.returns-in-Err
returns-in-Err c = prints_refusal (text_refused c.args.text.now _ _ (sym c.read.ensures.answer ∙ c.in-Err.is)) c.put_refused.ensures
