-- `running::trying::walk_on` meets its contract. The loop's invariant: what is held is the walk's record after the tries made.
-- Assumes nothing.
use mathlib.Core.Path.{◌≡◌}
use Prim.Native.Nat.{◌+◌, ◌-◌, ◌≤◌}
use Rattle.model.specs.State.{record_of}
use Rattle.pattern.specs.Matrix.{pattern_in}
use Rattle.running.specs.Trying.{walk_to}
use Rattle.running.specs.Run.{Goes, rules_in}
use Rattle.running.proofs.trying.walk_on.Given as goal

abbrev pub invariant-loop-trail : goal.invariant-loop-trail
invariant-loop-trail l = (l.made ≤ l.budget)
    × ((walk_to (rules_in l.search l.tables.crossed.matrix) l.k l.made (record_of l.search)).tries ≡ l.search.tries + l.made)
    × Goes (pattern_in l.tables.crossed.matrix) (walk_to (rules_in l.search l.tables.crossed.matrix) l.k l.made (record_of l.search)) l.trail l.best l.count l.found l.looks l.kept

abbrev pub decreases-loop-trail : goal.decreases-loop-trail
decreases-loop-trail l = l.budget - l.made
