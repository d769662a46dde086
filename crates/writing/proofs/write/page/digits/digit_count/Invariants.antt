-- `writing::write::page::digits::digit_count` meets its contract. The loop's invariant: the number has no fewer digits.
-- Assumes nothing.
use Rattle.std.proofs.Common.{◌≤◌, length}
use Rattle.writing.specs.Written.{decimals}
use Rattle.writing.proofs.write.page.digits.digit_count.Given as goal

abbrev pub invariant-loop-count : goal.invariant-loop-count
invariant-loop-count l = l.count ≤ length (decimals 20 l.n)
