-- `pattern::cap_from_percent` meets its contract. Within the limits the product of percent_limit + 100 and nonzero_limit fits.
-- Assumes nothing.
use mathlib.Core.Path.{sym, ◌∙◌}
use native.Mathlib.Omega.{arith}
use native.Mathlib.Nat.{mul-le-mul}
use Prim.Native.Nat.{ℕ, ◌+◌, ◌*◌, ◌^◌, ◌≤◌, ◌<◌}
use borrow.Author.Tests.{ltb-false}
use Rattle.model.specs.Limits.{nonzero_limit, percent_limit}
use Rattle.model.proofs.Theorems.Checks.{refuse-not}
use Rattle.pattern.proofs.cap.cap_from_percent.Goals as goal

product-fits : {a b : ℕ} → a ≤ 100 + percent_limit → b ≤ nonzero_limit → a * b < 2 ^ 64
product-fits g h = omega (arith, mul-le-mul g h)

pub overflow_mul-hundredths : goal.overflow_mul-hundredths
overflow_mul-hundredths c =
    let few = ltb-false _ _ (refuse-not _ _ _ (sym c.refuse_if.ensures ∙ c.in_ok-refuse_if.was)) in
    let low = ltb-false _ _ (refuse-not _ _ _ (sym c.refuse_if-2.ensures ∙ c.in_ok-refuse_if-2.was)) in
    record { fits = product-fits (omega (arith, low)) (omega (arith, few)) }
