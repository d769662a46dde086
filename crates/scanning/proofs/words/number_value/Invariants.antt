-- `scanning::number_value` meets its contract. The loop's invariant: the value of the digits passed.
-- Assumes nothing.
use Rattle.std.proofs.Common.{◌≡◌, ◌-◌}
use Rattle.scanning.specs.Words.{value_of}
use Rattle.scanning.proofs.words.number_value.Given as goal

abbrev pub invariant-loop-i : goal.invariant-loop-i
invariant-loop-i l = l.value ≡ value_of l.text l.from (l.i - l.from)
