-- `running::presenting::show_search` meets its contract: what refuses it, in the table's order, or what is shown.
-- Assumes nothing.
use mathlib.Core.Path.{sym, ◌∙◌, ap}
use native.Mathlib.Omega.{arith}
use borrow.Author.Tests.{not-false, ltb-false}
use Rattle.std.proofs.lemmas.Result.{err_from_is_err_and}
use Rattle.model.specs.Walk.{floor}
use Rattle.model.specs.State.{caps_in, record_of}
use Rattle.model.specs.Calls.{shown, shown_parts}
use Rattle.model.proofs.Theorems.Accepted.{list_accepted}
use Rattle.model.proofs.Theorems.Checks.{refuse-not}
use Rattle.state.proofs.Checks.{then_unfit, then_unlisted}
use Rattle.pattern.specs.declared.matrix.Matrix.{Matrix}
use Rattle.pattern.specs.Matrix.{pattern_in}
use Rattle.running.specs.Run.{rules_in}
use Rattle.running.proofs.Budgets.{fine_in}
use Rattle.running.proofs.Shows.{show_checks, show_room, show_made, parts_made, show_refused, parts_kept}
use Rattle.running.proofs.presenting.show_search.Goals as goal

pub overflow_cast-matrix : goal.overflow_cast-matrix
overflow_cast-matrix c = record { fits = omega (arith, (list_accepted _ _ _ _ (sym c.list_verdict.ensures.verdict ∙ c.in_ok-list_verdict.was)).rows_to) }

pub overflow_cast-matrix-2 : goal.overflow_cast-matrix-2
overflow_cast-matrix-2 c = record { fits = omega (arith, (list_accepted _ _ _ _ (sym c.list_verdict.ensures.verdict ∙ c.in_ok-list_verdict.was)).columns_to) }

pub overflow_cast-matrix-3 : goal.overflow_cast-matrix-3
overflow_cast-matrix-3 c = record { fits = omega (arith, (list_accepted _ _ _ _ (sym c.list_verdict.ensures.verdict ∙ c.in_ok-list_verdict.was)).size_to) }

pub of-ranked-requires : goal.of-ranked-requires
of-ranked-requires c = sym c.list_verdict.ensures.verdict ∙ c.in_ok-list_verdict.was

pub returns-in_err-list_verdict : goal.returns-in_err-list_verdict
returns-in_err-list_verdict c =
    let a = c.args in
    let p = err_from_is_err_and c.from_residual.result c.from_residual.ensures.1 in
    let refused = sym (show_checks a.m a.n a.nonzeros a.list.now a.parts.now a.search) ∙ then_unlisted _ _ _ _ _ _ _ (sym c.list_verdict.ensures.verdict ∙ c.in_err-list_verdict.was) in
    record { answer = p.1 ∙ rw p.2 (show_refused _ _ _ _ _ _ _ refused); parts = parts_kept _ _ _ _ _ _ _ refused }

pub returns-in_err-refuse_if : goal.returns-in_err-refuse_if
returns-in_err-refuse_if c =
    let a = c.args in
    let p = err_from_is_err_and c.from_residual-in_err-refuse_if.result c.from_residual-in_err-refuse_if.ensures.1 in
    let listed = sym c.list_verdict.ensures.verdict ∙ c.in_ok-list_verdict.was in
    let refused = sym (show_checks a.m a.n a.nonzeros a.list.now a.parts.now a.search) ∙ then_unfit _ _ _ _ _ _ _ _ listed (c.state_fine-fine.ensures _ c.of-ranked.result.made.ready ∙ ap (fine_in a.search) c.of-ranked.ensures) (sym c.refuse_if.ensures ∙ c.in_err-refuse_if.was) in
    record { answer = p.1 ∙ rw p.2 (show_refused _ _ _ _ _ _ _ refused); parts = parts_kept _ _ _ _ _ _ _ refused }

pub returns-in_err-refuse_if-2 : goal.returns-in_err-refuse_if-2
returns-in_err-refuse_if-2 c =
    let a = c.args in
    let listed = sym c.list_verdict.ensures.verdict ∙ c.in_ok-list_verdict.was in
    let fine = sym (c.state_fine-fine.ensures _ c.of-ranked.result.made.ready ∙ ap (fine_in a.search) c.of-ranked.ensures) ∙ not-false _ (refuse-not _ _ _ (sym c.refuse_if.ensures ∙ c.in_ok-refuse_if.was)) in
    let room = show_room a.m a.n a.nonzeros a.list.now a.parts.now a.search _ _ listed fine (c.from.ensures ∙ ap (λ (x : Matrix). x.nonzeros) c.of-ranked.ensures) c.refuse_if-2.ensures in
    let p = err_from_is_err_and c.from_residual-in_err-refuse_if-2.result c.from_residual-in_err-refuse_if-2.ensures.1 in
    let refused = room ∙ c.in_err-refuse_if-2.was in
    record { answer = p.1 ∙ rw p.2 (show_refused _ _ _ _ _ _ _ refused); parts = parts_kept _ _ _ _ _ _ _ refused }

pub show_fine-requires : goal.show_fine-requires
show_fine-requires c =
    let fine = sym (c.state_fine-fine.ensures _ c.of-ranked.result.made.ready) ∙ not-false _ (refuse-not _ _ _ (sym c.refuse_if.ensures ∙ c.in_ok-refuse_if.was)) in
    let enough = ltb-false _ _ (refuse-not _ _ _ (sym c.refuse_if-2.ensures ∙ c.in_ok-refuse_if-2.was)) in
    record { tryable = record { fine = fine }; room = omega (arith, enough, c.from.ensures) }

pub returns : goal.returns
returns c =
    let a = c.args in
    let listed = sym c.list_verdict.ensures.verdict ∙ c.in_ok-list_verdict.was in
    let fine = sym (c.state_fine-fine.ensures _ c.of-ranked.result.made.ready ∙ ap (fine_in a.search) c.of-ranked.ensures) ∙ not-false _ (refuse-not _ _ _ (sym c.refuse_if.ensures ∙ c.in_ok-refuse_if.was)) in
    let room = show_room a.m a.n a.nonzeros a.list.now a.parts.now a.search _ _ listed fine (c.from.ensures ∙ ap (λ (x : Matrix). x.nonzeros) c.of-ranked.ensures) c.refuse_if-2.ensures in
    let passed = room ∙ c.in_ok-refuse_if-2.was in
    record { answer = show_made _ _ _ _ _ _ passed _ (c.show_fine.ensures.answer ∙ ap (λ (x : Matrix). shown (pattern_in x) (caps_in a.search) (record_of a.search).best (floor (rules_in a.search x) (record_of a.search))) c.of-ranked.ensures); parts = parts_made _ _ _ _ _ _ passed _ (c.show_fine.ensures.parts ∙ ap (λ (x : Matrix). shown_parts (pattern_in x) (caps_in a.search) (record_of a.search).best a.parts.now) c.of-ranked.ensures) }
