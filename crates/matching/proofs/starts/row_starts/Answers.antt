use mathlib.Core.Path.{◌∙◌}
use Prim.Native.Nat.{◌+◌}
use native.Mathlib.Omega.{arith}
use lib.ListN.{get_or, length-set}
use Rattle.matching.proofs.Rows.Counts.{starts_begin, starts_most, sum_is, sum_done, sum_left, start_same}
use Rattle.matching.proofs.starts.row_starts.Goals as goal

pub loop-i-init : goal.loop-i-init
loop-i-init c =
    let v = c.row_counts-starts in
    let a = c.args in (
      v.ensures.0,
      omega arith,
      λ k h. starts_begin a.matrix.now.nonzeros a.matrix.now.list.now v.result v.ensures.1 k h,
      λ k g h. v.ensures.1 k h,
    )

pub overflow_add-starts-in-loop-i : goal.overflow_add-starts-in-loop-i
overflow_add-starts-in-loop-i c =
    let l = c.loop-i in
    let a = c.args in
    omega (
      arith,
      sum_is a.matrix.now.nonzeros a.matrix.now.list.now l.starts l.i l.invariant.0 (omega arith) l.invariant.2 l.invariant.3,
      starts_most a.matrix.now.nonzeros a.matrix.now.list.now (l.i + 1),
      c.row_counts-starts.ensures.2,
    )

pub loop-i-preserved : goal.loop-i-preserved
loop-i-preserved c =
    let l = c.loop-i in
    let a = c.args in (
      length-set l.starts (l.i + 1) (get_or l.starts (l.i + 1) 0 + get_or l.starts l.i 0) ∙ l.invariant.0,
      omega arith,
      sum_done
          a.matrix.now.nonzeros
          a.matrix.now.list.now
          l.starts
          l.i
          l.invariant.0
          (omega arith)
          l.invariant.2
          l.invariant.3,
      sum_left
          a.matrix.now.nonzeros
          a.matrix.now.list.now
          l.starts
          l.i
          l.invariant.0
          (omega arith)
          l.invariant.2
          l.invariant.3,
    )

pub returns : goal.returns
returns c =
    let l = c.loop-i in
    let a = c.args in
    let P = a.matrix.now in
    λ m n i h. l.invariant.2 i (omega arith) ∙ start_same m n P.nonzeros P.list.now i
