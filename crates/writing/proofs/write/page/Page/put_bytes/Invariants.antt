-- `writing::write::page::Page::put_bytes` meets its contract. The loop's invariant: the bytes passed are added.
-- Assumes nothing.
use Rattle.std.proofs.Common.{take}
use Rattle.writing.specs.Page.{Adds}
use Rattle.writing.proofs.write.page.Page.put_bytes.Given as goal

abbrev pub invariant-loop-b : goal.invariant-loop-b
invariant-loop-b l = Adds l.initial.self (take l.b-index l.bytes) l.self
