use mathlib.Core.Path.{◌≡◌, sym, ◌∙◌, ap}
use native.Mathlib.Omega.{arith}
use Rattle.state.specs.Legal.{marks_legal}
use Rattle.state.proofs.Legals.{legal_none, legal_more, legal_fails}
use Rattle.state.proofs.legal.are_marks.Goals as goal

pub loop-i-init : goal.loop-i-init
loop-i-init c = (omega arith, legal_none c.args.marks.now)

pub returns-then-mark_at-gt2 : goal.returns-then-mark_at-gt2
returns-then-mark_at-gt2 c =
    let a = c.args in
    let l = c.loop-i in
    sym (legal_fails a.marks.now l.i a.end (omega arith) (omega (arith, c.if-mark_at-gt2.true, c.mark_at.ensures)))

pub loop-i-preserved : goal.loop-i-preserved
loop-i-preserved c =
    let a = c.args in
    let l = c.loop-i in
    (omega arith, legal_more a.marks.now l.i l.invariant.1 (omega (arith, c.if-mark_at-gt2.false, c.mark_at.ensures)))

pub returns : goal.returns
returns c =
    let e : c.loop-i.i ≡ c.args.end = omega arith in
    sym c.loop-i.invariant.1 ∙ ap (marks_legal c.args.marks.now) e
