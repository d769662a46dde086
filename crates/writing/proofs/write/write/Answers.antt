-- `writing::write` meets its contract.
-- Assumes nothing.
use mathlib.Core.Path.{◌∙◌}
use Rattle.std.proofs.lemmas.Result.{err_from_is_err_and}
use Rattle.writing.proofs.Answers.{write_made, write_stopped, write_told}
use Rattle.writing.proofs.write.write.Goals as goal

pub returns-in_err-write_verdict : goal.returns-in_err-write_verdict
returns-in_err-write_verdict c =
    let p = err_from_is_err_and c.from_residual.result c.from_residual.ensures.1 in
    let stopped = write_stopped _ _ _ _ _ _ _ _ c.write_verdict.ensures _ c.in_err-write_verdict.was in
    let answer = p.1 ∙ rw p.2 stopped.0 in
    record { answer = answer; out = stopped.1; reply = write_told _ _ _ _ _ _ _ answer }

pub returns : goal.returns
returns c =
    let made = write_made _ _ _ _ _ _ _ _ c.write_verdict.ensures c.in_ok-write_verdict.was c.write_text.ensures.answer c.write_text.ensures.out in
    record { answer = made.0; out = made.1; reply = write_told _ _ _ _ _ _ _ made.0 }
