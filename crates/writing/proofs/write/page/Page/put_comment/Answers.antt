-- `writing::write::page::Page::put_comment` meets its contract.
-- Assumes nothing.
use Rattle.writing.specs.Written.{comment_text}
use Rattle.writing.proofs.Pages.{adds_then}
use Rattle.writing.proofs.write.page.Page.put_comment.Goals as goal

pub returns : goal.returns
unfolding comment_text
returns c = adds_then c.put_figure.ensures (adds_then c.put_figures.ensures c.put_ending.ensures)
