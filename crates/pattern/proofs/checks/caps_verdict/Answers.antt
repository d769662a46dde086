-- `pattern::caps_verdict` meets its contract: caps in range add up.
-- Assumes nothing.
use mathlib.Core.Path.{sym, ◌∙◌}
use native.Mathlib.Omega.{arith}
use Rattle.model.specs.declared.Part.TheVariants.{Zero, One}
use Rattle.model.proofs.Theorems.Accepted.{caps_ranged}
use Rattle.model.proofs.Theorems.Checks.{refuse-not}
use Rattle.pattern.proofs.checks.caps_verdict.Goals as goal

pub overflow_add-caps : goal.overflow_add-caps
overflow_add-caps c =
    let small = sym c.caps_outside.ensures ∙ refuse-not _ _ _ (sym c.refuse_if.ensures ∙ c.in_ok-refuse_if.was) in
    record { fits = omega (arith, caps_ranged _ small Zero, caps_ranged _ small One) }
