-- `writing::write::page::Page::put_head` meets its contract.
-- Assumes nothing.
use Rattle.writing.specs.Written.{head_text}
use Rattle.writing.proofs.Pages.{adds_then}
use Rattle.writing.proofs.write.page.Page.put_head.Goals as goal

pub returns : goal.returns
unfolding head_text
returns c = adds_then c.put_bytes.ensures c.put_comment.ensures
