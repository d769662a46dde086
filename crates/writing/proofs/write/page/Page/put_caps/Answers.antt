-- `writing::write::page::Page::put_caps` meets its contract.
-- Assumes nothing.
use Rattle.writing.specs.Written.{caps_text}
use Rattle.writing.proofs.Pages.{adds_then}
use Rattle.writing.proofs.write.page.Page.put_caps.Goals as goal

pub returns : goal.returns
unfolding caps_text
returns c = adds_then c.put_figure.ensures c.put_number.ensures
