-- `running::tally::shift` meets its contract.
-- Assumes nothing.
use mathlib.Core.Path.{◌≡◌, sym, ◌∙◌, ap}
use Prim.Native.Nat.{ℕ, ◌+◌, ◌-◌, ◌*◌}
use native.Mathlib.Omega.{arith}
use lib.ListN.{get_or, set}
use Rattle.keeping.specs.Tied.{tally_place}
use Rattle.keeping.proofs.Raises.{moves_nothing}
use Rattle.running.proofs.Ways.{moves_line}
use Rattle.running.proofs.tally.shift.Goals as goal

pub step-requires : goal.step-requires
step-requires c =
    let a = c.args in
    let leans = c.if-kind-lt2.true in
    let place : 301 * c.from-p.result + c.from.result ≡ tally_place a.kind a.from = omega (arith, c.from-p.ensures, c.from.ensures) in (
      c.requires.tally_long,
      omega (arith, place, leans, c.requires.from_light),
      omega (arith, ap (λ (i : ℕ). get_or a.tally.now i 0) place, c.requires.tally_some leans),
    )

pub step-requires-then-kind-lt2 : goal.step-requires-then-kind-lt2
step-requires-then-kind-lt2 c =
    let a = c.args in
    let leans = c.if-kind-lt2.true in
    let at = 301 * c.from-p.result + c.from-then-kind-lt2.result in
    let place : at ≡ tally_place a.kind a.to = omega (arith, c.from-p.ensures, c.from-then-kind-lt2.ensures) in
    let out = c.step.ensures in
    let long = sym out.long ∙ c.requires.tally_long in (
      long,
      omega (arith, place, leans, c.requires.to_light),
      omega (
        arith,
        out.more at (omega (arith, long, place, leans, c.requires.to_light)),
        ap (λ (i : ℕ). get_or a.tally.now i 0) place,
        c.requires.tally-room leans,
      ),
    )

pub returns-then-kind-lt2 : goal.returns-then-kind-lt2
returns-then-kind-lt2 c =
    let a = c.args in
    let p = c.from-p.ensures in
    let v = get_or a.sums.now c.from-p.result 0 in
    moves_line
    c.if-kind-lt2.true
    c.requires
    (omega (arith, p, c.from.ensures))
    (omega (arith, p, c.from-then-kind-lt2.ensures))
    p
    c.step.ensures
    c.step-then-kind-lt2.ensures
    ((λ t. set a.sums.now c.from-p.result (v - c.from-then-kind-lt2-2.ensures t + c.from-then-kind-lt2-3.ensures t)))

pub returns-else-kind-lt2 : goal.returns-else-kind-lt2
returns-else-kind-lt2 c = moves_nothing c.if-kind-lt2.false
