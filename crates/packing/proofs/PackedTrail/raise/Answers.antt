-- `packing::PackedTrail::raise` meets its contract.
-- Assumes nothing.
use borrow.Author.Tests.{lt-ltb, le-ltb}
use mathlib.Core.Path.{◌≡◌, sym, ◌∙◌}
use Prim.Native.Nat.{◌%◌}
use native.Mathlib.Omega.{arith}
use lib.Dec.{ltb}
use Rattle.counting.specs.Tests.{◌or◌}
use Rattle.counting.proofs.Joined.{or_right}
use Rattle.packing.proofs.Advancing.{next_small, or_none, packs_raise}
use Rattle.packing.proofs.PackedTrail.raise.Goals as goal
use Rattle.packing.proofs.PackedTrail.raise.Goals.{then-self-gt0, else-self-gt0}

pub overflow_add-self : goal.overflow_add-self
overflow_add-self c = omega (arith, c.next_mark.ensures, next_small (c.args.self.top % 4) c.if-self-gt0.allowed)

pub returns : goal.returns
returns c x τ p b =
    let first = c.args.first in
    let parts = c.args.self.parts in
    let allowed : c.if-self-gt0.allowed ≡ (first or ltb 0 parts) =
    elim c.if-self-gt0.branch [ then-self-gt0 w ↦ (let held = lt-ltb 0 parts w.if-self-gt0.true in w.allowed-is ∙ held ∙ sym (or_right first held)) | else-self-gt0 w ↦ w.allowed-is ∙ sym (or_none first (le-ltb 0 parts w.if-self-gt0.false)) ] in
    packs_raise _ _ _ _ x τ p b allowed c.next_mark.ensures
