-- `packing::PackedTrail::unpacked` meets its contract. The loop's invariant: the marks that are left, as many as `at`, stored, make the array of all.
-- Assumes nothing.
use mathlib.Core.List.{List}
use mathlib.Core.Path.{◌≡◌}
use Prim.Native.Nat.{ℕ}
use Rattle.packing.specs.Packed.{Packs}
use Rattle.packing.proofs.Copying.{Stores}
use Rattle.packing.proofs.PackedTrail.unpacked.Given as goal

abbrev pub invariant-loop-at : goal.invariant-loop-at
invariant-loop-at l = (l.self.len ≡ l.at) × ((τ : List ℕ) → Packs l.initial.self τ → Stores l.self l.marks τ)
