-- `pattern::part_bytes_verdict` meets its contract. The first refusal is that of every larger count.
-- Assumes nothing.
use mathlib.Core.Path.{refl, sym, ◌∙◌}
use Rattle.std.proofs.lemmas.Result.{err_from_is_err_and}
use Rattle.model.specs.Refusal.{each_verdict}
use Rattle.model.proofs.Theorems.Checks.{each_more, each-stop}
use Rattle.pattern.proofs.measures.part_bytes_verdict.Goals as goal

pub loop-t-init : goal.loop-t-init
unfolding each_verdict
loop-t-init c = refl

pub returns-in_err-part_verdict : goal.returns-in_err-part_verdict
returns-in_err-part_verdict c =
    let p = err_from_is_err_and c.from_residual.result c.from_residual.ensures.1 in
    rw (p.1, p.2) (sym (each-stop _ _ _ _ c.loop-t.invariant (sym c.part_verdict.ensures ∙ c.in_err-part_verdict.was) c.loop-t-test.true))

pub loop-t-preserved : goal.loop-t-preserved
loop-t-preserved c = each_more _ _ c.loop-t.invariant (sym c.part_verdict.ensures ∙ c.in_ok-part_verdict.was)
