-- `packing::PackedTrail::drop_last` meets its contract.
-- Assumes nothing.
use native.Mathlib.Omega.{arith}
use Rattle.packing.proofs.Packing.{packs_drop}
use Rattle.packing.proofs.PackedTrail.drop_last.Goals as goal

pub returns-then-at-eq0 : goal.returns-then-at-eq0
returns-then-at-eq0 c = (c.drop_word.ensures.0, λ x τ p. c.drop_word.ensures.1 x τ p (omega (arith, c.if-at-eq0.true, c.saturating_sub-at.ensures, p.long)))

pub returns : goal.returns
returns c =
    let self = c.args.self in
    let less = c.saturating_sub-at in (
      less.ensures,
      λ x τ p.
          packs_drop self less.result c.saturating_sub.result x τ p less.ensures c.if-at-eq0.false
          (omega (arith, c.saturating_sub.ensures, c.part.ensures.0)),
    )
