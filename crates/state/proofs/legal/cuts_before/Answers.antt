use mathlib.Core.Path.{◌≡◌, sym, ◌∙◌, ap}
use native.Mathlib.Omega.{arith}
use Rattle.state.specs.Legal.{cuts_in}
use Rattle.state.proofs.Cuts.{cuts-none, cuts-more, cuts_same}
use Rattle.state.proofs.legal.cuts_before.Goals as goal
use Rattle.state.proofs.legal.cuts_before.Goals.{else-mark_at-eq2, then-mark_at-eq2}

pub loop-i-init : goal.loop-i-init
loop-i-init c = (omega arith, omega arith, sym (cuts-none c.args.marks.now))

pub loop-i-preserved : goal.loop-i-preserved
loop-i-preserved c =
    let l = c.loop-i in
    let m = c.args.marks.now in
    elim c.if-mark_at-eq2.branch [ then-mark_at-eq2 w ↦ omega (arith, cuts-more m l.i (sym c.mark_at.ensures ∙ w.if-mark_at-eq2.true)) | else-mark_at-eq2 w ↦ omega (arith, cuts_same m l.i (λ e. w.if-mark_at-eq2.false (c.mark_at.ensures ∙ e))) ]

pub returns : goal.returns
returns c =
    let e : c.loop-i.i ≡ c.args.end = omega arith in
    c.loop-i.invariant.2 ∙ ap (cuts_in c.args.marks.now) e
