-- `writing::write::lines::put_refused` meets its contract.
-- Assumes nothing.
use native.Mathlib.Omega.{arith}
use Rattle.writing.specs.Lines.{refused_text}
use Rattle.writing.proofs.Pages.{adds_then, adds_first}
use Rattle.writing.proofs.write.lines.put_refused.Goals as goal

pub returns : goal.returns
unfolding refused_text
returns c =
    let all = adds_then c.put_figure.ensures (adds_then c.put_bytes.ensures c.put_number.ensures) in
    grind (arith, adds_first)
