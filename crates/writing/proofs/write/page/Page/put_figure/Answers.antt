-- `writing::write::page::Page::put_figure` meets its contract.
-- Assumes nothing.
use Rattle.writing.specs.Written.{figure_text}
use Rattle.writing.proofs.Pages.{adds_then}
use Rattle.writing.proofs.write.page.Page.put_figure.Goals as goal

pub returns : goal.returns
unfolding figure_text
returns c = adds_then c.put_bytes.ensures c.put_number.ensures
