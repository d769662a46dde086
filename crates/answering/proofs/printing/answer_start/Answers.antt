-- `answering::printing::answer_start` meets its contract.
-- Assumes nothing.
use native.Mathlib.Omega.{arith}
use Rattle.answering.proofs.Whole.{start_part, start-whole}
use Rattle.answering.proofs.printing.answer_start.Goals as goal

pub returns-then-count-input : goal.returns-then-count-input
returns-then-count-input c =
    let a = c.args in
    start_part a.input.now a.out.now _ a.count _ c.answer.ensures

pub returns-else-count-input : goal.returns-else-count-input
returns-else-count-input c =
    let a = c.args in
    start-whole a.input.now a.out.now _ a.count _ (omega arith) c.answer-else-count-input.ensures
