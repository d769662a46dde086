use mathlib.Core.Path.{refl, sym, ◌∙◌}
use Prim.Native.Nat.{ℕ, ◌*◌, ◌/◌, ◌<◌}
use native.Mathlib.Nat.{div-eq-sub-div, mod-eq-sub-mod, div-eq_of_lt, mod-eq_of_lt, div-lt_iff_lt-mul}
use native.Mathlib.Omega.{arith}
use Rattle.writing.proofs.write.page.digits.take_digit.Goals as goal

one-digit : (n power : ℕ) → n < 10 * power → n / power < 10
one-digit n power l = (div-lt_iff_lt-mul {k = power} (omega arith)).1 l

pub loop-left-init : goal.loop-left-init
loop-left-init c = (refl, refl)

pub overflow_add-byte : goal.overflow_add-byte
overflow_add-byte c = record { fits = omega (arith, c.loop-left.invariant.0, one-digit _ _ c.requires) }

pub loop-left-smaller : goal.loop-left-smaller
loop-left-smaller c = omega (arith, c.requires, c.loop-left-test.true)

pub loop-left-preserved : goal.loop-left-preserved
loop-left-preserved c =
    let some : 0 < c.args.power = omega (arith, c.requires) in
    let held = c.loop-left.invariant in
    (omega (arith, held.0, div-eq-sub-div some c.loop-left-test.true), sym (mod-eq-sub-mod c.loop-left-test.true) ∙ held.1)

pub returns : goal.returns
returns c =
    let held = c.loop-left.invariant in record { byte = omega (arith, held.0, div-eq_of_lt c.loop-left-test.false); left = sym (mod-eq_of_lt c.loop-left-test.false) ∙ held.1 }
