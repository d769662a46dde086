-- `answering::printing::printed` meets its contract.
-- Assumes nothing.
use borrow.Author.Rules.{rules}
use Rattle.answering.proofs.Whole.{prints}
use Rattle.answering.proofs.printing.printed.Goals as goal

pub returns : goal.returns
returns c =
    let a = c.args in
    prints a.input c.no_output-out.result a.count _ (search rules) (search rules) c.no_output-out.ensures c.answer_start-len.ensures
