-- `running::marks::count_all` meets its contract. The loop's invariant: of the crossing lines before i in the table one nonzero each is taken, or of those from i on one
-- each is still taken, and all is settled.
-- Assumes nothing.
use mathlib.Core.Bool.{not}
use mathlib.Core.Path.{◌≡◌}
use Prim.Native.Nat.{◌+◌, ◌<◌}
use lib.ListN.{get_or}
use Rattle.model.specs.Pattern.{Pattern, lines}
use Rattle.model.specs.Marking.{Marking, unmarked}
use Rattle.crossing.specs.Crossing.{Laid}
use Rattle.keeping.specs.Kept.{Stage}
use Rattle.running.specs.Ways.{besides}
use Rattle.running.proofs.Passes.{passed}
use Rattle.running.proofs.marks.count_all.Given as goal

abbrev pub invariant-loop-i : goal.invariant-loop-i
invariant-loop-i l = (P : Pattern) (μ : Marking) → Laid P l.starts l.cross → l.l < lines P → μ l.l ≡ unmarked →
    Stage P μ l.p (besides (not l.taken) P l.l) l.marks l.initial.by l.initial.left l.initial.kinds l.initial.tally l.initial.sums →
    Stage P μ l.p (passed l.taken l.cross (get_or l.starts l.l 0) l.i (get_or l.starts (l.l + 1) 0)) l.marks l.by l.left l.kinds l.tally l.sums
