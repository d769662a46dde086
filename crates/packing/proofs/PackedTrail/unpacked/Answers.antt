use mathlib.Core.Path.{refl, subst}
use Prim.Native.Nat.{ℕ, ◌-◌}
use native.Mathlib.Omega.{arith}
use lib.ListN.{set}
use Rattle.counting.proofs.Joined.{no_way}
use Rattle.model.specs.State.{array_of}
use Rattle.packing.proofs.Copying.{Stores, stores_first, stores_less, stores_none}
use Rattle.packing.proofs.PackedTrail.unpacked.Goals as goal

pub returns-then-len-gt-MARK_ROOM : goal.returns-then-len-gt-MARK_ROOM
returns-then-len-gt-MARK_ROOM c τ p = no_way (omega (arith, c.if-len-gt-MARK_ROOM.true, p.long, p.fits))

pub loop-at-init : goal.loop-at-init
unfolding array_of
loop-at-init c = (refl, λ τ p. stores_first _ _ τ p refl)

pub loop-at-preserved : goal.loop-at-preserved
loop-at-preserved c =
    let l = c.loop-at in (
      omega (arith, c.drop_last-self.ensures.0, l.invariant.0),
      λ τ p. subst
          (λ (i : ℕ). Stores c.drop_last-self.result (set l.marks (i - 1) c.last.result) τ)
          l.invariant.0
          (stores_less l.self _ l.marks τ _ (l.invariant.1 τ p) (omega (arith, l.invariant.0, c.loop-at-test.true)) c.last.ensures c.drop_last-self.ensures.1),
    )

pub returns : goal.returns
returns c τ p =
    let l = c.loop-at in
    stores_none l.self l.marks τ _ (l.invariant.1 τ p) (omega (arith, l.invariant.0, c.loop-at-test.false)) p.long
