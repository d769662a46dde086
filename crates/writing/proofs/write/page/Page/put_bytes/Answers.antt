-- `writing::write::page::Page::put_bytes` meets its contract.
-- Assumes nothing.
use Rattle.writing.proofs.Pages.{adds_next}
use Rattle.writing.proofs.write.page.Page.put_bytes.Goals as goal

pub loop-b-preserved : goal.loop-b-preserved
loop-b-preserved c = adds_next _ _ c.loop-b-test.true c.loop-b.invariant c.put.ensures
