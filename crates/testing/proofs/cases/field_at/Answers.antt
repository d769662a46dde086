use Rattle.std.proofs.Common.{◌≡◌, ◌-◌, length, refl, sym, ◌∙◌, arith}
use Rattle.testing.specs.Cases.{field_of, field_from}
use Rattle.testing.proofs.Fields.{field_all, field_here, field_on, field_over}
use Rattle.testing.proofs.cases.field_at.Goals as goal
use Rattle.testing.proofs.cases.field_at.Goals.{else-loop-test, then-loop-test+then-ends_field}

pub loop-init : goal.loop-init
loop-init c = field_all _ _ _ _

pub loop-preserved : goal.loop-preserved
loop-preserved c =
    let v = c.loop in
    let a = c.args in
    rw (c.lay_given-len.ensures.0, c.lay_given-len.ensures.1) (sym (field_on a.kind a.text.now v.page v.len v.next v.counter (length a.text.now) c.given_at-given.result (omega arith) (rw c.letter_at-letter.ensures at (sym c.ends_field.ensures ∙ c.if-ends_field.false)) c.given_at-given.ensures) ∙ v.invariant)

pub returns : goal.returns
returns c =
    let v = c.loop in
    let a = c.args in
    let last : field_from a.kind a.text.now v.page v.len v.next (length a.text.now - v.counter) ≡ (field_of a.text.now v.len v.next, v.page) =
    elim c.loop-test.branch [
      | else-loop-test w ↦ field_over a.kind a.text.now v.page v.len v.next v.counter (length a.text.now) (omega arith)
      | then-loop-test+then-ends_field w ↦ field_here a.kind a.text.now v.page v.len v.next _ (rw w.letter_at-letter.ensures at (sym w.ends_field.ensures ∙ w.if-ends_field.true))
    ] in
    let whole = sym last ∙ v.invariant in
    rw (← whole) (c.field_of.ensures, refl)
