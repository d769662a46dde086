-- `testing::laying::lay` meets its contract. The loop's invariant: what is left to lay out ends at the same place with the same page.
-- Assumes nothing.
use Rattle.std.proofs.Common.{◌≡◌, drop}
use Rattle.testing.specs.Laid.{place_past, laid}
use Rattle.testing.proofs.laying.lay.Given as goal

abbrev pub invariant-loop-byte : goal.invariant-loop-byte
invariant-loop-byte l = (place_past l.next (drop l.byte-index l.bytes) ≡ place_past l.at l.bytes) × (laid l.page l.next (drop l.byte-index l.bytes) ≡ laid l.initial.page l.at l.bytes)
