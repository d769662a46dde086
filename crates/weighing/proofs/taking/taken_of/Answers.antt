use mathlib.Core.Path.{◌≡◌, refl, sym, ◌∙◌}
use Prim.Native.Nat.{◌+◌}
use native.Mathlib.Omega.{arith}
use Rattle.counting.specs.Tests.{◌and◌}
use Rattle.counting.proofs.Joined.{bit_le_one, and_passed, and_fails_left}
use Rattle.model.specs.declared.Part.TheVariants.{Zero, One}
use Rattle.model.specs.Pattern.{column_in, pattern_of}
use Rattle.weighing.specs.Cells.{marking_in}
use Rattle.weighing.proofs.Taken.{takes_code, either_or, taken_start, taken_more, taken_end, taken_small}
use Rattle.weighing.proofs.taking.taken_of.Goals as goal
use Rattle.weighing.proofs.taking.taken_of.Goals.{then-first, else-first}

pub loop-t-init : goal.loop-t-init
loop-t-init c n =
    let x = c.args.matrix.now in
    taken_start (pattern_of x.m n x.nonzeros x.list.now) (marking_in c.args.marks.now)

pub overflow_add-zero : goal.overflow_add-zero
overflow_add-zero c = omega (arith, (taken_small (c.loop-t.invariant 0)).0, bit_le_one c.takes_by-first.result)

pub overflow_add-one : goal.overflow_add-one
overflow_add-one c = omega (arith, (taken_small (c.loop-t.invariant 0)).1, bit_le_one c.takes_by-second.result)

pub loop-t-preserved : goal.loop-t-preserved
loop-t-preserved c n =
    let first = c.takes_by-first.result in
    let second = c.takes_by-second.result in
    let row = c.from-row.ensures ∙ c.row_of.ensures in
    let column : c.from-rows.result + c.from.result ≡ c.args.matrix.now.m + column_in c.args.matrix.now.list.now c.loop-t.t = omega arith in
    let twice : c.if-first.both ≡ first and second =
    elim c.if-first.branch [ then-first w ↦ w.both-is ∙ sym (and_passed second w.if-first.true) | else-first w ↦ w.both-is ∙ w.if-first.false ∙ sym (and_fails_left second w.if-first.false) ] in
    taken_more
    (c.loop-t.invariant n)
    (takes_code _ n _ _ _ Zero _ _ _ 0 _ row column refl c.takes_by-first.ensures)
    (takes_code _ n _ _ _ One _ _ _ 1 _ row column refl c.takes_by-second.ensures)
    c.share_of.ensures
    c.share_of-in-loop-t.ensures
    twice
    (either_or c.loop-t.both c.if-first.both)

pub returns : goal.returns
unfolding pattern_of
returns c n = taken_end (omega arith) (c.loop-t.invariant n)
