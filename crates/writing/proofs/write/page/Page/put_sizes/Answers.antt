-- `writing::write::page::Page::put_sizes` meets its contract.
-- Assumes nothing.
use Rattle.writing.specs.Written.{sizes_text}
use Rattle.writing.proofs.Pages.{adds_then}
use Rattle.writing.proofs.write.page.Page.put_sizes.Goals as goal

pub returns : goal.returns
unfolding sizes_text
returns c = adds_then c.put_number.ensures (adds_then c.put_number-2.ensures c.put_number-3.ensures)
