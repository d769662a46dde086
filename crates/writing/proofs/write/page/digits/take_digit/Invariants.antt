-- `writing::write::digits::take_digit` meets its contract. The loop's invariant: the digits counted and the quotient of what is left make
-- the quotient, and the remainder is that of what is left.
-- Assumes nothing.
use mathlib.Core.Path.{◌≡◌}
use Prim.Native.Nat.{◌+◌, ◌/◌, ◌%◌}
use Rattle.writing.proofs.write.page.digits.take_digit.Given as goal

abbrev pub invariant-loop-left : goal.invariant-loop-left
invariant-loop-left l = (l.byte + l.left / l.power ≡ 48 + l.n / l.power) × (l.left % l.power ≡ l.n % l.power)

abbrev pub decreases-loop-left : goal.decreases-loop-left
decreases-loop-left l = l.left
