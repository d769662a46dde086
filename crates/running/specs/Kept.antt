-- All that is kept of a marking, as one value.
-- Assumes nothing.
use Rattle.std.specs.Prelude.{ℕ}
use Rattle.model.specs.Pattern.{Pattern}
use Rattle.model.specs.Marking.{Marking}
use Rattle.pattern.specs.Matrix.{pattern_in}
use Rattle.keeping.specs.Kept.{Holds, Pushable, Poppable}
use Rattle.running.specs.declared.kept.Kept.{Kept}
use Rattle.running.specs.declared.tables.Crossed.{Crossed}

-- all that is kept of a marking
abbrev pub Keeps : Pattern → Marking → Kept → Type 0
Keeps P μ k = Holds P μ k.marks k.by k.left k.kinds k.tally k.sums k.loads

-- of a marking of the pattern at hand
abbrev pub KeepsOn : Crossed → Marking → Kept → Type 0
KeepsOn t μ k = Keeps (pattern_in t.matrix) μ k

-- line l can get mark p
abbrev pub PushableOn : Crossed → Kept → ℕ → ℕ → Type 0
PushableOn t k l p = Pushable t.starts.now t.cross.now k.marks k.by k.left k.kinds k.tally k.sums k.loads l p

-- line l can lose its mark
abbrev pub PoppableOn : Crossed → Kept → ℕ → Type 0
PoppableOn t k l = Poppable t.starts.now t.cross.now k.marks k.by k.left k.kinds k.tally k.sums k.loads l
