-- `pattern::load` meets its contract. The cast fits where the sizes are accepted.
-- Assumes nothing.
use mathlib.Core.List.{[], ◌∷◌}
use mathlib.Core.Path.{sym, ◌∙◌, ap}
use native.Mathlib.Omega.{arith}
use Rattle.std.specs.Prelude.{Ok}
use Rattle.model.specs.Refusal.{given}
use Rattle.model.proofs.Theorems.Checks.{nonzeros_small}
use Rattle.pattern.specs.Measures.{load_call, load_replies}
use Rattle.pattern.proofs.Answers.{measure_sizes, load_value}
use Rattle.pattern.proofs.measures.load.Goals as goal

pub overflow_cast-nonzeros : goal.overflow_cast-nonzeros
overflow_cast-nonzeros c = record { fits = omega (arith, nonzeros_small _ _ _ (measure_sizes _ _ _ _ _ (sym c.measure_verdict.ensures ∙ c.in_ok-measure_verdict.was))) }

pub returns : goal.returns
unfolding load_call load_replies
returns c =
    let accepted = sym c.measure_verdict.ensures ∙ c.in_ok-measure_verdict.was in
    let value = load_value c.args.m c.args.n c.args.nonzeros c.args.list.now c.args.parts.now c.args.part c.load_of.ensures in
    record { answer = rw accepted (ap Ok value); reply = rw accepted (ap (λ x. given (x ∷ [])) value) }
