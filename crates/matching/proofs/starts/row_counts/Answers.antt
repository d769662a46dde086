use mathlib.Core.List.{List}
use mathlib.Core.Path.{◌≡◌, ◌∙◌, ap}
use Prim.Native.Nat.{ℕ, ◌+◌}
use native.Mathlib.Omega.{arith}
use lib.ListN.{length, get_or, length-set}
use Rattle.model.specs.Pattern.{row_in}
use Rattle.matching.specs.Starts.{row_count}
use Rattle.matching.proofs.Rows.Counts.{no_starts_long, counts_none, counts_most, counts_more, counts_passed}
use Rattle.matching.proofs.starts.row_counts.Goals as goal
use Rattle.matching.proofs.starts.row_counts.Goals.{else-at-lt-SIDE_ENDS, then-at-lt-SIDE_ENDS}

pub loop-t-init : goal.loop-t-init
loop-t-init c =
    let n = c.no_starts-counts in
    (ap length n.ensures ∙ no_starts_long, omega arith, counts_none c.args.matrix.now.list.now n.result n.ensures)

pub overflow_add-counts : goal.overflow_add-counts
overflow_add-counts c =
    let l = c.loop-t in
    let a = c.args in
    let at = c.from-at.result + 1 in
    omega (arith, l.invariant.2 at (omega arith), counts_most a.matrix.now.list.now l.t at)

pub loop-t-preserved : goal.loop-t-preserved
loop-t-preserved c =
    let l = c.loop-t in
    let a = c.args in
    let at = c.from-at.result + 1 in
    let place : at ≡ row_in a.matrix.now.list.now l.t + 1 = omega arith in
    elim c.if-at-lt-SIDE_ENDS.branch [
      | then-at-lt-SIDE_ENDS w ↦ (
        ap length w.counts-is ∙ length-set l.counts at (get_or l.counts at 0 + 1) ∙ l.invariant.0,
        omega arith,
        λ i h. ap (λ (x : List ℕ). get_or x i 0) w.counts-is
            ∙ counts_more a.matrix.now.list.now l.counts l.t at place l.invariant.2 l.invariant.0 w.if-at-lt-SIDE_ENDS.true i h,
      )
      | else-at-lt-SIDE_ENDS w ↦ (
        ap length w.counts-is ∙ l.invariant.0,
        omega arith,
        λ i h. ap (λ (x : List ℕ). get_or x i 0) w.counts-is
            ∙ counts_passed a.matrix.now.list.now l.counts l.t at place l.invariant.2 w.if-at-lt-SIDE_ENDS.false i h,
      )
    ]

pub returns : goal.returns
returns c =
    let l = c.loop-t in
    let q : l.t ≡ c.args.matrix.now.nonzeros = omega arith in
    (l.invariant.0, λ i h. l.invariant.2 i h ∙ ap (λ (n : ℕ). row_count c.args.matrix.now.list.now n i) q, omega arith)
