-- `pattern::volume` meets its contract. The casts fit where the sizes are accepted, and there is room for every line.
-- Assumes nothing.
use mathlib.Core.List.{[], ◌∷◌}
use mathlib.Core.Path.{sym, ◌∙◌, ap}
use native.Mathlib.Omega.{arith}
use Rattle.std.specs.Prelude.{Ok}
use Rattle.model.specs.Refusal.{given}
use Rattle.model.proofs.Theorems.Checks.{rows_range, columns_range, nonzeros_small}
use Rattle.pattern.specs.Measures.{volume_call, volume_replies}
use Rattle.pattern.proofs.Answers.{measure_sizes, lines_few}
use Rattle.pattern.proofs.measures.volume.Goals as goal

pub overflow_cast-matrix : goal.overflow_cast-matrix
overflow_cast-matrix c = record { fits = omega (arith, (rows_range _ _ _ (measure_sizes _ _ _ _ _ (sym c.measure_verdict.ensures ∙ c.in_ok-measure_verdict.was))).1) }

pub overflow_cast-matrix-2 : goal.overflow_cast-matrix-2
overflow_cast-matrix-2 c = record { fits = omega (arith, (columns_range _ _ _ (measure_sizes _ _ _ _ _ (sym c.measure_verdict.ensures ∙ c.in_ok-measure_verdict.was))).1) }

pub overflow_cast-matrix-3 : goal.overflow_cast-matrix-3
overflow_cast-matrix-3 c = record { fits = omega (arith, nonzeros_small _ _ _ (measure_sizes _ _ _ _ _ (sym c.measure_verdict.ensures ∙ c.in_ok-measure_verdict.was))) }

pub returns : goal.returns
unfolding volume_call volume_replies
returns c =
    let accepted = sym c.measure_verdict.ensures ∙ c.in_ok-measure_verdict.was in
    let value = c.volume_of.ensures (lines_few _ _ _ _ _ accepted) in
    record { answer = rw accepted (ap Ok value); reply = rw accepted (ap (λ x. given (x ∷ [])) value) }
