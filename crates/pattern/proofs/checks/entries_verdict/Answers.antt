-- `pattern::entries_verdict` meets its contract. The first refusal is that of every larger count.
-- Assumes nothing.
use mathlib.Core.Path.{sym, ◌∙◌}
use Rattle.std.proofs.lemmas.Result.{err_from_is_err_and}
use Rattle.model.proofs.Theorems.Checks.{each-stop}
use Rattle.pattern.proofs.checks.entries_verdict.Goals as goal

pub returns-in_err-entry_verdict : goal.returns-in_err-entry_verdict
returns-in_err-entry_verdict c =
    let p = err_from_is_err_and c.from_residual.result c.from_residual.ensures.1 in
    rw (p.1, p.2) (sym (each-stop _ _ _ _ c.loop-t.invariant (sym c.entry_verdict.ensures ∙ c.in_err-entry_verdict.was) c.loop-t-test.true))
