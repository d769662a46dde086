-- `gulzoreno::run_and_show` meets its contract.
-- Assumes nothing.
use mathlib.Core.Path.{refl, sym, ◌∙◌}
use Rattle.model.specs.Refusal.{refusal_code, reply_code}
use Rattle.model.specs.Calls.{shows_reply, show_code}
use Rattle.gulzoreno.specs.Host.{figures_shown}
use Rattle.gulzoreno.proofs.Places.{show-place}
use Rattle.gulzoreno.proofs.run_and_show.Goals as goal

pub refusal_code-requires : goal.refusal_code-requires
refusal_code-requires c =
    let a = c.args in
    show-place a.m a.n a.nonzeros a.list.now _ a.parts.now (sym c.show.ensures.answer ∙ c.in-Err.is)

pub returns-in-Ok-Split : goal.returns-in-Ok-Split
unfolding show_code reply_code shows_reply figures_shown
returns-in-Ok-Split c =
    let ran = sym c.run.ensures.answer in
    let shown = sym c.show.ensures.answer in
    record { answer = rw (ran, shown, c.in-Ok-Split.is, c.in-Ok-Split.field-0-is) refl; parts = rw ran c.show.ensures.parts; figures = rw (ran, shown, c.in-Ok-Split.is, c.in-Ok-Split.field-0-is) c.put_figures.ensures }

pub returns-in-Ok-NoneYet : goal.returns-in-Ok-NoneYet
unfolding show_code reply_code shows_reply figures_shown
returns-in-Ok-NoneYet c =
    let ran = sym c.run.ensures.answer in
    let shown = sym c.show.ensures.answer in
    record { answer = rw (ran, shown, c.in-Ok-NoneYet.is, c.in-Ok-NoneYet.field-0-is) refl; parts = rw ran c.show.ensures.parts; figures = rw (ran, shown, c.in-Ok-NoneYet.is, c.in-Ok-NoneYet.field-0-is) refl }

pub returns-in-Err : goal.returns-in-Err
unfolding show_code reply_code refusal_code figures_shown
returns-in-Err c =
    let ran = sym c.run.ensures.answer in
    let shown = sym c.show.ensures.answer in
    record { answer = rw (ran, shown, c.in-Err.is) c.refusal_code.ensures; parts = rw ran c.show.ensures.parts; figures = rw (ran, shown, c.in-Err.is) refl }
