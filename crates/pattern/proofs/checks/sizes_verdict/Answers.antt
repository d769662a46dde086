-- `pattern::sizes_verdict` meets its contract. The product is taken where both numbers are at most line_limit.
-- Assumes nothing.
use mathlib.Core.Path.{sym, ◌∙◌}
use native.Mathlib.Omega.{arith}
use native.Mathlib.Nat.{mul-le-mul}
use borrow.Author.Rules.{rules}
use Rattle.model.specs.Limits.{line_limit}
use Rattle.model.proofs.Theorems.Checks.{in_range, refuse-not}
use Rattle.pattern.proofs.Verdicts.{sizes_each}
use Rattle.pattern.proofs.checks.sizes_verdict.Goals as goal

pub returns-in_err-refuse_if : goal.returns-in_err-refuse_if
returns-in_err-refuse_if c = rw (sizes_each c.args.m c.args.n c.args.nonzeros) (search rules)

pub returns-in_err-refuse_if-2 : goal.returns-in_err-refuse_if-2
returns-in_err-refuse_if-2 c = rw (sizes_each c.args.m c.args.n c.args.nonzeros) (search rules)

pub returns-in_err-refuse_if-3 : goal.returns-in_err-refuse_if-3
returns-in_err-refuse_if-3 c = rw (sizes_each c.args.m c.args.n c.args.nonzeros) (search rules)

pub overflow_mul-m : goal.overflow_mul-m
overflow_mul-m c =
    let rows = in_range line_limit _ (sym c.outside_lines.ensures ∙ refuse-not _ _ _ (sym c.refuse_if.ensures ∙ c.in_ok-refuse_if.was)) in
    let columns = in_range line_limit _ (sym c.outside_lines-2.ensures ∙ refuse-not _ _ _ (sym c.refuse_if-2.ensures ∙ c.in_ok-refuse_if-2.was)) in
    record { fits = omega (arith, mul-le-mul rows.1 columns.1) }

pub returns : goal.returns
returns c = rw (sizes_each c.args.m c.args.n c.args.nonzeros) (search rules)
