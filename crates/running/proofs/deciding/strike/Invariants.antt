-- `running::deciding::strike` meets its contract.
-- Assumes nothing.
use mathlib.Core.Path.{◌≡◌}
use Prim.Native.Nat.{◌+◌, ◌-◌, ◌*◌, ◌≤◌, ◌<◌}
use lib.ListN.{get_or}
use Rattle.model.specs.Bound.{falling, strikes}
use Rattle.keeping.specs.Tied.{tally_place}
use Rattle.judging.proofs.Strikes.{falling_below}
use Rattle.running.proofs.deciding.strike.Given as goal

abbrev pub invariant-loop-weight : goal.invariant-loop-weight
invariant-loop-weight l = (l.weight ≤ l.top + 1)
    × (0 < l.over)
    × (l.struck ≤ 65536 * (l.top + 1 - l.weight))
    × (l.struck + strikes (falling_below (λ x. get_or l.tally (tally_place l.p x) 0) l.weight) l.over 0
    ≡ strikes (falling (λ x. get_or l.tally (tally_place l.p x) 0) l.top) l.s l.room)

abbrev pub decreases-loop-weight : goal.decreases-loop-weight
decreases-loop-weight l = l.weight
