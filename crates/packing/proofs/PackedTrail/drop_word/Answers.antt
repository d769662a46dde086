-- `packing::PackedTrail::drop_word` meets its contract.
-- Assumes nothing.
use native.Mathlib.Omega.{arith}
use Rattle.packing.proofs.Packing.{packs_drop_word, packs_drop-only}
use Rattle.packing.proofs.PackedTrail.drop_word.Goals as goal
use Rattle.packing.proofs.PackedTrail.drop_word.Goals.{else-at-gt0-via-else-at-gt0, else-at-gt0-via-then-at-gt0+else-w-lt-WORD_ROOM}

pub returns-then-w-lt-WORD_ROOM : goal.returns-then-w-lt-WORD_ROOM
returns-then-w-lt-WORD_ROOM c =
    let self = c.args.self in
    let less = c.saturating_sub-at in
    let word = c.saturating_sub-w in (
      less.ensures,
      λ x τ p d.
          packs_drop_word self less.result word.result c.saturating_sub.result x τ p less.ensures
          (omega (arith, less.ensures, p.long))
          c.if-at-gt0.true
          word.ensures
          (omega (arith, c.saturating_sub.ensures, c.part.ensures.0)),
    )

pub returns-else-at-gt0 : goal.returns-else-at-gt0
returns-else-at-gt0 c =
    let self = c.args.self in
    let less = c.saturating_sub-at in (
      less.ensures,
      λ x τ p d. packs_drop-only self less.result x τ p less.ensures (omega (arith, p.long, p.fits)),
    )
