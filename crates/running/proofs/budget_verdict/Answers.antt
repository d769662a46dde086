-- `running::budget_verdict` meets its contract.
-- Assumes nothing.
use borrow.Author.Rules.{rules}
use native.Mathlib.Omega.{arith}
use mathlib.Core.Path.{sym, ◌∙◌}
use borrow.Author.Tests.{ltb-false}
use Rattle.model.proofs.Theorems.Checks.{refuse-not}
use Rattle.running.proofs.Budgets.{budget_each}
use Rattle.running.proofs.budget_verdict.Goals as goal

pub returns-in_err-refuse_if : goal.returns-in_err-refuse_if
returns-in_err-refuse_if c = rw (budget_each c.args.tries c.args.budget) (search rules)

pub returns-in_err-refuse_if-2 : goal.returns-in_err-refuse_if-2
returns-in_err-refuse_if-2 c = rw (budget_each c.args.tries c.args.budget) (search rules)

pub overflow_add-tries : goal.overflow_add-tries
overflow_add-tries c =
    let few = ltb-false _ _ (refuse-not _ _ _ (sym c.refuse_if.ensures ∙ c.in_ok-refuse_if.was)) in
    let low = ltb-false _ _ (refuse-not _ _ _ (sym c.refuse_if-2.ensures ∙ c.in_ok-refuse_if-2.was)) in
    record { fits = omega (arith, few, low) }

pub returns : goal.returns
returns c = rw (budget_each c.args.tries c.args.budget) (search rules)
