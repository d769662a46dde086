-- `packing::PackedTrail::append` meets its contract.
-- Assumes nothing.
use native.Mathlib.Omega.{arith}
use Rattle.counting.proofs.Joined.{no_way}
use Rattle.packing.proofs.Packing.{counted_all, counted_few, packs_append}
use Rattle.packing.proofs.PackedTrail.append.Goals as goal

pub returns-then-at-ge-MARK_ROOM : goal.returns-then-at-ge-MARK_ROOM
returns-then-at-ge-MARK_ROOM c τ p b m = no_way (omega (arith, c.if-at-ge-MARK_ROOM.true, p.long))

pub returns-then-at-eq0 : goal.returns-then-at-eq0
returns-then-at-eq0 c τ p b m = c.append_word.ensures τ p c.if-at-eq0.true m

pub returns : goal.returns
returns c τ p b m =
    rw c.from.ensures
    (packs_append c.args.self c.saturating_add.result c.args.mark τ p (omega (arith, p.long))
    c.if-at-eq0.false
    m
    (omega (arith, counted_few p b, counted_all p)))
