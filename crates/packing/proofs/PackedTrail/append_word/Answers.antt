-- `packing::PackedTrail::append_word` meets its contract.
-- Assumes nothing.
use native.Mathlib.Omega.{arith}
use Rattle.packing.proofs.Packing.{counted_all, counted_few, packs_append_word}
use Rattle.packing.proofs.PackedTrail.append_word.Goals as goal

pub returns : goal.returns
returns c τ p d m =
    rw c.from.ensures
    (packs_append_word c.args.self c.saturating_sub-w.result c.saturating_add.result _ τ p c.requires d m c.saturating_sub-w.ensures
    (omega (arith, counted_few p (omega (arith, p.long)), counted_all p)))
