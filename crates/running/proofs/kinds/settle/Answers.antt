-- `running::kinds::settle` meets its contract.
-- Assumes nothing.
use Rattle.model.specs.Limits.{line_room}
use Rattle.keeping.specs.Kinds.{kind_of}
use mathlib.Core.Path.{sym, ◌∙◌, ap}
use Prim.Native.Nat.{◌+◌}
use lib.ListN.{length, get_or, length-set}
use Rattle.keeping.proofs.Turns.{stored, stands}
use Rattle.running.proofs.kinds.settle.Goals as goal

pub returns-then-to-kinds : goal.returns-then-to-kinds
returns-then-to-kinds c =
    let a = c.args in
    let s = c.set_kind.ensures in
    let k = c.kind_of-to in (
      ap length s.0 ∙ length-set a.kinds.now a.y k.result ∙ c.requires.kinds_long,
      stored a.kinds.now c.set_kind.new.kinds a.y k.result (kind_of (get_or a.marks.now a.y 0) (get_or a.by.now a.y 0) (get_or a.by.now (line_room + a.y) 0)) line_room s.0 k.ensures c.requires.kinds_long,
      s.1,
    )

pub returns-else-to-kinds : goal.returns-else-to-kinds
returns-else-to-kinds c =
    let a = c.args in (
      c.requires.kinds_long,
      λ z b. stands a.kinds.now a.y (kind_of (get_or a.marks.now a.y 0) (get_or a.by.now a.y 0) (get_or a.by.now (line_room + a.y) 0)) z (sym c.if-to-kinds.false ∙ c.kind_of-to.ensures),
      λ P laid line tied. tied,
    )
