-- `running::evaluating::evaluate_listed` meets its contract. The casts fit where the sizes are accepted.
-- Assumes nothing.
use mathlib.Core.Path.{sym, ◌∙◌}
use native.Mathlib.Omega.{arith}
use Rattle.model.proofs.Theorems.Accepted.{list_accepted}
use Rattle.weighing.proofs.Taken.{valid-by}
use Rattle.running.proofs.Evaluated.{not_valid}
use Rattle.running.proofs.evaluating.evaluate_listed.Goals as goal

pub overflow_cast-matrix : goal.overflow_cast-matrix
overflow_cast-matrix c = omega (arith, (list_accepted _ _ _ _ c.requires).rows_to)

pub overflow_cast-matrix-2 : goal.overflow_cast-matrix-2
overflow_cast-matrix-2 c = omega (arith, (list_accepted _ _ _ _ c.requires).columns_to)

pub overflow_cast-matrix-3 : goal.overflow_cast-matrix-3
overflow_cast-matrix-3 c = omega (arith, (list_accepted _ _ _ _ c.requires).size_to)

pub evaluate_valid-requires : goal.evaluate_valid-requires
evaluate_valid-requires c =
    (c.requires, sym (valid-by c.args.caps (c.taken_of-taken.ensures c.args.n)) ∙ sym c.is_valid.ensures ∙ c.if-is_valid.true)

pub returns-then-is_valid : goal.returns-then-is_valid
returns-then-is_valid c = λ known. c.evaluate_valid.ensures known (c.taken_of-taken.ensures c.args.n)

pub returns : goal.returns
returns c = λ known.
    let a = c.args in
    let e = c.invalid.ensures in
    not_valid _ a.caps _ a.best _ _ (c.taken_of-taken.ensures c.args.n) (sym c.is_valid.ensures ∙ c.if-is_valid.false) e.0 e.1 e.2 e.3
