-- `running::kinds::settle_if` meets its contract.
-- Assumes nothing.
use Prim.Native.Nat.{◌+◌}
use lib.ListN.{get_or}
use Rattle.model.specs.Limits.{line_room}
use Rattle.keeping.specs.Kinds.{kind_of}
use Rattle.keeping.proofs.Turns.{stands}
use Rattle.running.proofs.kinds.settle_if.Goals as goal

pub returns-then-turned : goal.returns-then-turned
returns-then-turned c = c.settle.ensures

pub returns-else-turned : goal.returns-else-turned
returns-else-turned c =
    let a = c.args in (
      c.requires.0.kinds_long,
      λ z b. stands a.kinds.now a.y (kind_of (get_or a.marks.now a.y 0) (get_or a.by.now a.y 0) (get_or a.by.now (line_room + a.y) 0)) z (c.requires.1 c.if-turned.false),
      λ P laid line tied. tied,
    )
