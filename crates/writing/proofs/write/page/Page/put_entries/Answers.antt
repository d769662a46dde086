-- `writing::write::page::Page::put_entries` meets its contract.
-- Assumes nothing.
use native.Mathlib.Omega.{arith}
use Rattle.writing.proofs.Pages.{adds_no_entry, adds_entry}
use Rattle.writing.proofs.Puttings.{entry_short}
use Rattle.writing.proofs.write.page.Page.put_entries.Goals as goal

pub loop-t-init : goal.loop-t-init
loop-t-init c = record { room = omega arith; entries = adds_no_entry _ _ _ }

pub loop-t-preserved : goal.loop-t-preserved
loop-t-preserved c =
    let before = c.loop-t.invariant in
    record { room = omega (arith, c.put_entry.ensures.puts.after, entry_short c.args.matrix.now.list.now c.args.parts.now c.loop-t.t); entries = adds_entry _ _ _ before.entries c.put_entry.ensures }
