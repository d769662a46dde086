-- `testing::cases::field_at` meets its contract. The loop's invariant: the page keeps its length, and the bytes from the place reached on complete the same field and the same page.
-- Assumes nothing.
use Rattle.std.proofs.Common.{◌≡◌, ◌-◌, length}
use Rattle.testing.specs.Cases.{field_from, field_at}
use Rattle.testing.proofs.cases.field_at.Given as goal

abbrev pub invariant-loop : goal.invariant-loop
invariant-loop l = field_from l.kind l.text l.page l.len l.next (length l.text - l.counter) ≡ field_at l.kind l.text l.at l.initial.page
