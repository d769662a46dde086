-- `running::kept::Kept::lift` meets its contract. The loop's invariant: what is kept is that of the first marks, so many as are not lifted yet.
-- Assumes nothing.
use Prim.Native.Nat.{ℕ, ◌≤◌}
use Rattle.model.specs.declared.Caps.{Caps}
use Rattle.model.specs.Marking.{marking}
use Rattle.model.specs.Walk.{rules_of}
use Rattle.model.specs.State.{stack}
use Rattle.pattern.specs.Matrix.{pattern_in}
use Rattle.running.specs.Kept.{Keeps}
use Rattle.running.specs.Walking.{Standing}
use Rattle.running.proofs.kept.Kept.lift.Given as goal

abbrev pub invariant-loop-at : goal.invariant-loop-at
invariant-loop-at l = (l.to ≤ l.from → l.to ≤ l.at)
    × ((caps : Caps) (mark : ℕ → ℕ) → Standing (rules_of (pattern_in l.tables.crossed.matrix) caps) (stack mark l.from) →
    Keeps (pattern_in l.tables.crossed.matrix) (marking (pattern_in l.tables.crossed.matrix) (stack mark l.from)) l.initial.self → Keeps (pattern_in l.tables.crossed.matrix) (marking (pattern_in l.tables.crossed.matrix) (stack mark l.at)) l.self)
