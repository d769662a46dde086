use mathlib.Core.Path.{◌≡◌, sym, ◌∙◌, ap}
use Prim.Native.Nat.{ℕ}
use native.Mathlib.Omega.{arith}
use Rattle.counting.specs.Tests.{◌or◌}
use Rattle.trail.specs.Trail.{is_part}
use Rattle.state.specs.Legal.{ones_legal, one_denied}
use Rattle.state.proofs.Legals.{ones_none, ones_more, ones_fail, one_at-first, one_at-more}
use Rattle.state.proofs.legal.ones_allowed.Goals as goal

pub loop-i-init : goal.loop-i-init
loop-i-init c = (omega arith, ones_none c.args.first c.args.marks.now, one_at-first c.args.first c.args.marks.now)

pub returns-then-one_denied : goal.returns-then-one_denied
returns-then-one_denied c =
    sym (ones_fail c.args.first c.args.marks.now c.loop-i.i c.args.end c.loop-i.allowed (omega arith) c.loop-i.invariant.2 (ap (λ (x : ℕ). one_denied x c.loop-i.allowed) (sym c.mark_at-mark.ensures) ∙ sym c.one_denied.ensures ∙ c.if-one_denied.true))

pub loop-i-preserved : goal.loop-i-preserved
loop-i-preserved c =
    let l = c.loop-i in
    let a = c.args in
    let m = a.marks.now in
    let mark = c.mark_at-mark.ensures in (
      omega arith,
      ones_more
          a.first
          m
          l.i
          l.allowed
          l.invariant.1
          l.invariant.2
          (ap (λ (x : ℕ). one_denied x l.allowed) (sym mark) ∙ sym c.one_denied.ensures ∙ c.if-one_denied.false),
      c.allowed_behind-allowed.ensures ∙ ap (λ (x : ℕ). is_part x or l.allowed) mark ∙ one_at-more a.first m l.i l.allowed l.invariant.2,
    )

pub returns : goal.returns
returns c =
    let e : c.loop-i.i ≡ c.args.end = omega arith in
    sym c.loop-i.invariant.1 ∙ ap (ones_legal c.args.first c.args.marks.now) e
