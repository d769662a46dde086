-- The check of a run's budget.
-- Assumes nothing.
use Rattle.std.specs.Prelude.{ℕ, ◌+◌, ltb}
use Rattle.counting.specs.Tests.{◌or◌}
use Rattle.model.specs.declared.Word.TheVariants.{Budget}
use Rattle.model.specs.Limits.{budget_limit, tries_limit}
use Rattle.model.specs.Refusal.{Verdict, refuse}

-- 13: over a call's range, or tries + budget over the limit
unfoldable pub budget_by : ℕ → ℕ → Verdict
budget_by tries budget = refuse (ltb budget_limit budget or ltb tries_limit (tries + budget)) Budget 0
