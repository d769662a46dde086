-- `writing::write::page::Page::put_number` meets its contract.
-- Assumes nothing.
use Rattle.writing.specs.Written.{number_text}
use Rattle.writing.proofs.Pages.{adds_then}
use Rattle.writing.proofs.write.page.Page.put_number.Goals as goal

pub returns : goal.returns
unfolding number_text
returns c = adds_then c.put_decimal.ensures c.put.ensures
