-- `writing::write::page::Page::put_body` meets its contract.
-- Assumes nothing.
use Rattle.writing.specs.Written.{body_text}
use Rattle.writing.proofs.Pages.{adds_then, adds_as}
use Rattle.writing.proofs.write.page.Page.put_body.Goals as goal

pub returns : goal.returns
unfolding body_text
returns c = adds_then (adds_as (cc) c.put_sizes.ensures) c.put_entries.ensures
