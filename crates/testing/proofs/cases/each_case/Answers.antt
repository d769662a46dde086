use Rattle.std.proofs.Common.{◌≡◌, ◌-◌, ◌∙◌, subst, sym, arith, of_calls}
use Rattle.testing.specs.Turns.{Answered}
use Rattle.testing.proofs.Turns.{answers, answers_at, answered_past, answered_over, answered_on, answered_failed}
use Rattle.testing.proofs.cases.each_case.Goals as goal
use Rattle.testing.proofs.cases.each_case.Goals.{else-loop-test, then-loop-test+in_default}

pub loop-init : goal.loop-init
loop-init g c =
    let all : c.args.end - 0 ≡ c.args.end = omega arith in
    (c.requires, λ r last h. subst (λ k. Answered g.F.FnMut c.args.end k c.args.answer (record { text = c.args.text; at = 0 }) r last) all h)

pub returns-then-is_err : goal.returns-then-is_err
returns-then-is_err g c =
    let v = c.loop in
    let next = c.in-Some.ensures in
    let call = answers_at g.F.FnMut _ _ _ v.cases _ _ _ next.1 next.2 (answers g.F.FnMut c.answer-answered.ensures) in
    (_, v.invariant.1 _ _ (answered_failed g.F.FnMut _ v.counter _ _ v.cases _ _ c.loop-test.true next.0 (sym c.is_err.ensures.value ∙ c.if-is_err.true) call))

pub loop-preserved : goal.loop-preserved
loop-preserved g c =
    let v = c.loop in
    let next = c.in-Some.ensures in
    let call = answers_at g.F.FnMut _ _ _ v.cases _ _ _ next.1 next.2 (answers g.F.FnMut c.answer-answered.ensures) in
    (search of_calls, λ r last h. v.invariant.1 r last (answered_on g.F.FnMut _ v.counter _ _ _ v.cases _ _ _ c.loop-test.true next.0 (sym c.is_err.ensures.value ∙ c.if-is_err.false) call h))

pub returns : goal.returns
returns g c =
    let v = c.loop in (
      _,
      v.invariant.1 _ _ (elim c.loop-test.branch [
        | else-loop-test w ↦ answered_over g.F.FnMut _ v.counter _ v.cases (omega (arith, w.loop-test.false))
        | then-loop-test+in_default w ↦ answered_past g.F.FnMut _ _ _ v.cases w.in_default.ensures.0
      ]),
    )
