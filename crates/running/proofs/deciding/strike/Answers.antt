use mathlib.Core.Path.{sym}
use Prim.Native.Nat.{ℕ, ◌+◌, ◌-◌}
use native.Mathlib.Nat.{mul-le-mul, div-le_self}
use native.Mathlib.Omega.{arith}
use lib.ListN.{get_or}
use Rattle.keeping.specs.Tied.{tally_place}
use Rattle.judging.proofs.Strikes.{strikes-stop}
use Rattle.judging.proofs.Weights.{strike_start, some_weight, strike_on, strike_ends, strike_none}
use Rattle.running.proofs.deciding.strike.Goals as goal

pub returns-then-s-room : goal.returns-then-s-room
returns-then-s-room c = sym (strikes-stop _ _ _ c.if-s-room.true)

pub loop-weight-init : goal.loop-weight-init
loop-weight-init c =
    let a = c.args in
    let h : ℕ → ℕ = λ x. get_or a.tally.now (tally_place a.p x) 0 in
    (omega arith, omega arith, omega arith, omega (arith, strike_start h a.top a.s a.room))

pub overflow_mul-all : goal.overflow_mul-all
overflow_mul-all c =
    let k = c.loop-weight.weight - 1 in
    omega (arith, mul-le-mul {n₁ = c.from-lines.result} {m₁ = k} {n₂ = 65535} {m₂ = 300} (omega arith) (omega arith))

pub overflow_add-result : goal.overflow_add-result
overflow_add-result c =
    let k = c.loop-weight.weight - 1 in
    omega (arith, mul-le-mul {n₁ = c.from-lines.result} {m₁ = k} {n₂ = 65535} {m₂ = 300} (omega arith) (omega arith))

pub nonzero_div-result : goal.nonzero_div-result
nonzero_div-result c =
    let i = c.loop-weight in
    omega (arith, some_weight c.from-lines.result (i.weight - 1) i.over i.invariant.1 c.if-over-all.true)

pub overflow_add-result-then-over-all : goal.overflow_add-result-then-over-all
overflow_add-result-then-over-all c =
    let i = c.loop-weight in
    let k = i.weight - 1 in
    omega (
      arith,
      mul-le-mul {n₁ = c.from-lines.result} {m₁ = k} {n₂ = 65535} {m₂ = 300} (omega arith) (omega arith),
      div-le_self (i.over + k - 1) k,
    )

pub returns-then-over-all : goal.returns-then-over-all
returns-then-over-all c =
    let i = c.loop-weight in
    let a = c.args in
    strike_ends
    (λ x. get_or a.tally.now (tally_place a.p x) 0)
    i.weight
    c.from-lines.result
    i.over
    i.struck
    _
    c.loop-weight-test.true
    c.from-lines.ensures
    i.invariant.1
    c.if-over-all.true
    i.invariant.3

pub loop-weight-preserved : goal.loop-weight-preserved
loop-weight-preserved c =
    let i = c.loop-weight in
    let a = c.args in (
      omega arith,
      omega arith,
      omega arith,
      strike_on
          (λ x. get_or a.tally.now (tally_place a.p x) 0)
          i.weight
          c.from-lines.result
          i.over
          i.struck
          _
          c.loop-weight-test.true
          c.from-lines.ensures
          c.if-over-all.false
          i.invariant.3,
    )

pub returns : goal.returns
returns c =
    let i = c.loop-weight in
    let a = c.args in
    omega (
      arith,
      strike_none (λ x. get_or a.tally.now (tally_place a.p x) 0) i.weight i.over c.loop-weight-test.false,
      i.invariant.3,
    )
