-- `testing::cases::digits_at` meets its contract. The loop's invariant: the place reached is past neither end, and the digits from it on complete the same number.
-- Assumes nothing.
use Rattle.std.proofs.Common.{◌≡◌, ◌≤◌, max, length, drop}
use Rattle.testing.specs.Cases.{digits_from, digits_at}
use Rattle.testing.proofs.cases.digits_at.Given as goal

abbrev pub invariant-loop-next : goal.invariant-loop-next
invariant-loop-next l = (l.next ≤ max l.at (length l.text)) × (digits_from l.value l.next (drop l.next l.text) ≡ digits_at l.text l.at)
