-- `answering::splitting::put_split` meets its contract.
-- Assumes nothing.
use Rattle.answering.proofs.Steps.{split-written, split_refused}
use Rattle.answering.proofs.splitting.put_split.Goals as goal

pub returns-in-Ok : goal.returns-in-Ok
returns-in-Ok c =
    let a = c.args in
    split-written a.text.m a.text.n a.text.nonzeros a.list.now a.parts.now a.figures a.out.now c.write.result c.write.ensures.answer _ _ c.write.ensures.out c.in-Ok.is

pub returns-in-Err : goal.returns-in-Err
returns-in-Err c =
    let a = c.args in
    split_refused a.text.m a.text.n a.text.nonzeros a.list.now a.parts.now a.figures a.out.now c.write.result c.write.ensures.answer _ _ _ _ c.write.ensures.out c.in-Err.is c.put_refused.ensures
