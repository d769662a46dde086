use mathlib.Core.Bool.{true}
use mathlib.Core.Path.{◌≡◌, sym, ◌∙◌}
use Prim.Native.Nat.{◌%◌}
use native.Mathlib.Omega.{arith}
use lib.Dec.{ltb}
use borrow.Author.Tests.{ltb-true}
use Rattle.counting.proofs.Joined.{and_left}
use Rattle.packing.specs.Packed.{ends_cut}
use Rattle.packing.proofs.Advancing.{leads_first, leads_less, leads_none, leads_raise}
use Rattle.packing.proofs.PackedTrail.advance.Goals as goal
use Rattle.packing.proofs.PackedTrail.advance.Goals.{In-loop-self}

-- the last mark is cut
cut : (c : In-loop-self) → ends_cut c.loop-self.self ≡ true
cut c = sym c.ends_cut.ensures ∙ c.loop-self-test.true

pub loop-self-init : goal.loop-self-init
loop-self-init c τ p = leads_first _ _ τ p

pub loop-self-smaller : goal.loop-self-smaller
loop-self-smaller c =
    let self = c.loop-self.self in
    omega (arith, c.drop_last-self.ensures.0, ltb-true 0 self.len (and_left (ltb 0 self.len) (ltb 1 (self.top % 4)) (cut (goal.at.loop-self-smaller c).In-loop-self)))

pub loop-self-preserved : goal.loop-self-preserved
loop-self-preserved c τ p =
    let l = c.loop-self in
    leads_less _ l.self _ τ (l.invariant τ p) (cut (goal.at.loop-self-preserved c).In-loop-self) c.drop_last-self.ensures.1

pub returns-then-self-eq0 : goal.returns-then-self-eq0
returns-then-self-eq0 c τ p = leads_none _ _ τ (c.loop-self.invariant τ p) c.if-self-eq0.true

pub returns : goal.returns
returns c τ p =
    let l = c.loop-self in
    leads_raise _ l.self _ τ (l.invariant τ p) c.if-self-eq0.false (sym c.ends_cut.ensures ∙ c.loop-self-test.false) c.raise.ensures
