-- `testing::comparing::same_count` meets its contract. The loop's invariant: the bytes below `i` are the same.
-- Assumes nothing.
use Rattle.std.proofs.Common.{◌≡◌, ℕ, ◌<◌, get_or}
use Rattle.testing.proofs.comparing.same_count.Given as goal

abbrev pub invariant-loop-i : goal.invariant-loop-i
invariant-loop-i l = (k : ℕ) → k < l.i → get_or l.first k 0 ≡ get_or l.second k 0
