-- `writing::write::page::Page::put_decimal` meets its contract.
-- Assumes nothing.
use Rattle.writing.proofs.Pages.{adds_past}
use Rattle.writing.proofs.write.page.Page.put_decimal.Goals as goal

pub returns-then-self : goal.returns-then-self
returns-then-self c = adds_past _ _ c.if-self.true c.digit_count-count.ensures
