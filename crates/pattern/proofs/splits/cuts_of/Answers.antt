-- `pattern::cuts_of` meets its contract: one line more.
-- Assumes nothing.
use mathlib.Core.Path.{refl}
use native.Mathlib.Omega.{arith}
use Rattle.counting.specs.Sums.{sum}
use Rattle.counting.proofs.Joined.{bit_le_one}
use Rattle.counting.proofs.Counted.{count-more}
use Rattle.pattern.specs.Splits.{both_held}
use Rattle.pattern.proofs.splits.cuts_of.Goals as goal

pub loop-l-init : goal.loop-l-init
unfolding sum
loop-l-init c = (omega arith, refl)

pub overflow_add-cuts : goal.overflow_add-cuts
overflow_add-cuts c = record { fits = omega (arith, c.cut_of-cuts.ensures, bit_le_one (both_held c.args.zeros.now c.args.ones.now c.loop-l.l)) }

pub loop-l-preserved : goal.loop-l-preserved
loop-l-preserved c =
    let q = both_held c.args.zeros.now c.args.ones.now in
    let l = c.loop-l.l in
    omega (arith, c.cut_of-cuts.ensures, bit_le_one (q l), count-more q l)
