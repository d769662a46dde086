-- `packing::PackedTrail::advance` meets its contract. The loop's invariant: the trail is on the way. Its length falls.
-- Assumes nothing.
use mathlib.Core.List.{List}
use Prim.Native.Nat.{ℕ}
use Rattle.packing.specs.Packed.{Packs}
use Rattle.packing.proofs.Advancing.{Leads}
use Rattle.packing.proofs.PackedTrail.advance.Given as goal

abbrev pub invariant-loop-self : goal.invariant-loop-self
invariant-loop-self l = (τ : List ℕ) → Packs l.initial.self τ → Leads l.first l.self τ

abbrev pub decreases-loop-self : goal.decreases-loop-self
decreases-loop-self l = l.self.len
