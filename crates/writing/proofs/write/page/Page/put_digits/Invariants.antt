-- `writing::write::page::Page::put_digits` meets its contract. The loop's invariant: whoever adds the digits left here adds all of them.
-- Assumes nothing.
use Rattle.std.proofs.Common.{◌+◌, ◌^◌, ◌<◌, ◌≤◌}
use Rattle.writing.specs.Written.{decimals}
use Rattle.writing.proofs.Padded.{padded}
use Rattle.writing.proofs.Pages.{Leads}
use Rattle.writing.proofs.write.page.Page.put_digits.Given as goal

abbrev pub invariant-loop-k : goal.invariant-loop-k
invariant-loop-k l = record {
  below : l.left < 10 ^ l.k;
  room : l.self.at + l.k ≤ l.initial.self.at + 20;
  rest : Leads l.self (padded l.k l.left) l.initial.self (decimals 20 l.n);
}
