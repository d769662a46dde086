-- `pattern::load_of` meets its contract: one nonzero more.
-- Assumes nothing.
use mathlib.Core.Path.{◌≡◌, refl, ◌∙◌, ap}
use native.Mathlib.Omega.{arith}
use Rattle.counting.specs.Tests.{bit}
use Rattle.counting.specs.Sums.{sum, count}
use Rattle.counting.proofs.Joined.{bit_le_one, from_bool_is}
use Rattle.counting.proofs.Counted.{count-more}
use Rattle.pattern.specs.Splits.{in_part, load_of}
use Rattle.pattern.proofs.splits.load_of.Goals as goal

pub loop-t-init : goal.loop-t-init
unfolding sum
loop-t-init c = (omega arith, refl)

pub loop-t-preserved : goal.loop-t-preserved
loop-t-preserved c =
    let q = in_part c.args.parts.now c.args.part in
    let t = c.loop-t.t in
    let share : c.from-load.result ≡ bit (q t) = c.from-load.ensures ∙ from_bool_is _ ∙ ap bit c.is_in.ensures in
    omega (arith, share, bit_le_one (q t), count-more q t)

pub returns : goal.returns
unfolding load_of
returns c =
    let a = c.args in
    let e : c.loop-t.t ≡ a.nonzeros = omega arith in
    c.loop-t.invariant.1 ∙ ap (count (in_part a.parts.now a.part)) e
