-- `writing::write::page::Page::put_figures` meets its contract.
-- Assumes nothing.
use Rattle.writing.specs.Written.{figures_text}
use Rattle.writing.proofs.Pages.{adds_then}
use Rattle.writing.proofs.write.page.Page.put_figures.Goals as goal

pub returns : goal.returns
unfolding figures_text
returns c = adds_then c.put_caps.ensures (adds_then c.put_figure.ensures (adds_then c.put_figure-2.ensures (adds_then c.put_bytes.ensures c.put_number.ensures)))
