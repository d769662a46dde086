use Rattle.std.proofs.Common.{◌≡◌, sym, ◌∙◌, arith}
use Rattle.testing.proofs.Fields.{digits-here, digits-on, digits_over}
use Rattle.testing.proofs.cases.digits_at.Goals as goal

pub returns-then-not-is_digit : goal.returns-then-not-is_digit
returns-then-not-is_digit c =
    let v = c.loop-next in
    sym (digits-here c.args.text.now v.value v.next (omega arith) (sym c.is_digit.ensures ∙ c.if-not-is_digit.true)) ∙ v.invariant.1

pub loop-next-preserved : goal.loop-next-preserved
loop-next-preserved c =
    let v = c.loop-next in
    (omega arith, rw c.grown-value.ensures (sym (digits-on c.args.text.now v.value v.next (omega arith) (sym c.is_digit.ensures ∙ c.if-not-is_digit.false)) ∙ v.invariant.1))

pub returns : goal.returns
returns c =
    let v = c.loop-next in
    let end : c.max.result ≡ v.next = omega arith in
    rw end (sym (digits_over c.args.text.now v.value v.next (omega arith)) ∙ v.invariant.1)
