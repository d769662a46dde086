-- `gulzoreno::gulzoreno_bipartition` meets its contract.
-- Assumes nothing.
use mathlib.Core.Path.{refl, sym, ◌∙◌}
use Rattle.model.specs.Split.{caps_of}
use Rattle.model.proofs.Theorems.Checks.{refused_by}
use Rattle.gulzoreno.specs.Host.{host_code_after, host_parts_after, host_figures_after, bipartition_code, bipartition_parts, bipartition_figures}
use Rattle.gulzoreno.proofs.Answers.{taken}
use Rattle.gulzoreno.proofs.Places.{host_place}
use Rattle.gulzoreno.proofs.gulzoreno_bipartition.Goals as goal

pub refusal_code-requires : goal.refusal_code-requires
refusal_code-requires c =
    let a = c.args in
    host_place a.m a.n a.nonzeros a.list.now (caps_of a.cap0 a.cap1) a.budget a.parts.now a.figures.now (refused_by _ _ (sym c.opened.ensures ∙ c.in-Err.is))

pub returns-in-Ok : goal.returns-in-Ok
unfolding bipartition_code bipartition_parts bipartition_figures host_code_after host_parts_after host_figures_after
returns-in-Ok c =
    let p = taken _ _ _ _ _ _ _ _ (sym c.opened.ensures ∙ c.in-Ok.is) in
    let r = c.run_and_show.ensures in
    record { answer = rw (p.0, p.1) r.answer; parts = rw (p.0, p.1) r.parts; figures = rw (p.0, p.1) r.figures }

pub returns-in-Err : goal.returns-in-Err
unfolding bipartition_code bipartition_parts bipartition_figures host_code_after host_parts_after host_figures_after
returns-in-Err c =
    let p = refused_by _ _ (sym c.opened.ensures ∙ c.in-Err.is) in
    record { answer = rw p c.refusal_code.ensures; parts = rw p refl; figures = rw p refl }
