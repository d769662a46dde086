-- `pattern::list_verdict` meets its contract. The casts fit where the sizes are accepted.
-- Assumes nothing.
use mathlib.Core.Path.{sym, ◌∙◌}
use native.Mathlib.Omega.{arith}
use Rattle.model.proofs.Theorems.Checks.{rows_range, columns_range, nonzeros_small}
use Rattle.pattern.proofs.checks.list_verdict.Goals as goal

pub overflow_mul-nonzeros : goal.overflow_mul-nonzeros
overflow_mul-nonzeros c = record { fits = omega (arith, nonzeros_small _ _ _ (sym c.sizes_verdict.ensures ∙ c.in_ok-sizes_verdict.was)) }

pub overflow_cast-nonzeros : goal.overflow_cast-nonzeros
overflow_cast-nonzeros c = record { fits = omega (arith, nonzeros_small _ _ _ (sym c.sizes_verdict.ensures ∙ c.in_ok-sizes_verdict.was)) }

pub entries_verdict-requires : goal.entries_verdict-requires
entries_verdict-requires c =
    let h = sym c.sizes_verdict.ensures ∙ c.in_ok-sizes_verdict.was in
    ((rows_range _ _ _ h).1, (columns_range _ _ _ h).1)
