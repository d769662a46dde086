-- `writing::write::put_text` meets its contract.
-- Assumes nothing.
use native.Mathlib.Omega.{arith}
use Rattle.writing.specs.Written.{text_of}
use Rattle.writing.proofs.Pages.{adds_then, adds_first}
use Rattle.writing.proofs.write.put_text.Goals as goal

pub returns : goal.returns
unfolding text_of
returns c =
    let all = adds_then c.put_head.ensures c.put_body.ensures in
    grind (arith, adds_first)
