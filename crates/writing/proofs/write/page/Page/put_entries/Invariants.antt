-- `writing::write::page::Page::put_entries` meets its contract. The loop's invariant: the entries of the nonzeros passed are added.
-- Assumes nothing.
use Rattle.std.proofs.Common.{◌+◌, ◌*◌, ◌≤◌}
use Rattle.writing.specs.Written.{entries_text}
use Rattle.writing.specs.Page.{Adds}
use Rattle.writing.proofs.write.page.Page.put_entries.Given as goal

abbrev pub invariant-loop-t : goal.invariant-loop-t
invariant-loop-t l = record {
  room : l.self.at ≤ l.initial.self.at + 63 * l.t;
  entries : Adds l.initial.self (entries_text l.matrix.list.now l.parts l.t) l.self;
}
