-- `running::run_checked` meets its contract. The casts fit where the list is accepted.
-- Assumes nothing.
use mathlib.Core.Path.{sym, ◌∙◌, ap}
use native.Mathlib.Omega.{arith}
use borrow.Author.Tests.{not-false}
use Rattle.std.proofs.lemmas.Result.{err_from_is_err_and}
use Rattle.model.proofs.Theorems.Accepted.{list_accepted}
use Rattle.model.proofs.Theorems.Checks.{refuse-not}
use Rattle.state.proofs.Checks.{then-later, then_unfit, then_unlisted}
use Rattle.model.specs.State.{record_of, search_of}
use Rattle.model.specs.Calls.{ran_record}
use Rattle.pattern.specs.declared.matrix.Matrix.{Matrix}
use Rattle.pattern.specs.Matrix.{pattern_in}
use Rattle.running.proofs.Budgets.{fine_in, budget_within, from_readied, run_walked}
use Rattle.running.proofs.Answered.{check_refused, check_passed}
use Rattle.running.proofs.run_checked.Goals as goal

pub returns-in_err-list_verdict : goal.returns-in_err-list_verdict
returns-in_err-list_verdict c =
    let p = err_from_is_err_and c.from_residual.result c.from_residual.ensures.1 in
    rw (p.1, p.2) (check_refused _ _ _ _ _ _ _ (then_unlisted _ _ _ _ _ _ _ (sym c.list_verdict.ensures.verdict ∙ c.in_err-list_verdict.was)))

pub overflow_cast-matrix : goal.overflow_cast-matrix
overflow_cast-matrix c = record { fits = omega (arith, (list_accepted _ _ _ _ (sym c.list_verdict.ensures.verdict ∙ c.in_ok-list_verdict.was)).rows_to) }

pub overflow_cast-matrix-2 : goal.overflow_cast-matrix-2
overflow_cast-matrix-2 c = record { fits = omega (arith, (list_accepted _ _ _ _ (sym c.list_verdict.ensures.verdict ∙ c.in_ok-list_verdict.was)).columns_to) }

pub overflow_cast-matrix-3 : goal.overflow_cast-matrix-3
overflow_cast-matrix-3 c = record { fits = omega (arith, (list_accepted _ _ _ _ (sym c.list_verdict.ensures.verdict ∙ c.in_ok-list_verdict.was)).size_to) }

pub of-ranked-requires : goal.of-ranked-requires
of-ranked-requires c = sym c.list_verdict.ensures.verdict ∙ c.in_ok-list_verdict.was

pub returns-in_err-refuse_if : goal.returns-in_err-refuse_if
returns-in_err-refuse_if c =
    let p = err_from_is_err_and c.from_residual-in_err-refuse_if.result c.from_residual-in_err-refuse_if.ensures.1 in
    let listed = sym c.list_verdict.ensures.verdict ∙ c.in_ok-list_verdict.was in
    rw (p.1, p.2) (check_refused _ _ _ _ _ _ _ (then_unfit _ _ _ _ _ _ _ _ listed (c.state_fine-fine.ensures _ c.of-ranked.result.made.ready ∙ ap (fine_in c.args.search) c.of-ranked.ensures) (sym c.refuse_if.ensures ∙ c.in_err-refuse_if.was)))

pub returns-in_err-budget_verdict : goal.returns-in_err-budget_verdict
returns-in_err-budget_verdict c =
    let p = err_from_is_err_and c.from_residual-in_err-budget_verdict.result c.from_residual-in_err-budget_verdict.ensures.1 in
    let listed = sym c.list_verdict.ensures.verdict ∙ c.in_ok-list_verdict.was in
    let fine = sym (c.state_fine-fine.ensures _ c.of-ranked.result.made.ready ∙ ap (fine_in c.args.search) c.of-ranked.ensures) ∙ not-false _ (refuse-not _ _ _ (sym c.refuse_if.ensures ∙ c.in_ok-refuse_if.was)) in
    rw (p.1, p.2) (check_refused _ _ _ _ _ _ _ (then-later _ _ _ _ _ _ listed fine ∙ sym c.budget_verdict.ensures ∙ c.in_err-budget_verdict.was))

pub run_from-requires : goal.run_from-requires
run_from-requires c =
    let fine = sym (c.state_fine-fine.ensures _ c.of-ranked.result.made.ready) ∙ not-false _ (refuse-not _ _ _ (sym c.refuse_if.ensures ∙ c.in_ok-refuse_if.was)) in
    let within = budget_within _ _ (sym c.budget_verdict.ensures ∙ c.in_ok-budget_verdict.was) in
    from_readied c.of-ranked.result c.args.search _ (record { fine = fine }) c.normal.ensures c.of-ranked.result.full c.args.budget (omega arith) (omega (arith, within))

pub returns : goal.returns
returns c =
    let s = c.args.search in
    let listed = sym c.list_verdict.ensures.verdict ∙ c.in_ok-list_verdict.was in
    let fine = sym (c.state_fine-fine.ensures _ c.of-ranked.result.made.ready) ∙ not-false _ (refuse-not _ _ _ (sym c.refuse_if.ensures ∙ c.in_ok-refuse_if.was)) in
    let after = run_walked c.of-ranked.result s _ (record { fine = fine }) c.normal.ensures c.args.budget _ c.run_from.ensures ∙ ap (λ (x : Matrix). search_of (ran_record (record_of s) (pattern_in x) c.args.budget)) c.of-ranked.ensures in
    check_passed _ _ _ _ _ _ _ (then-later _ _ _ _ _ _ listed (sym (ap (fine_in s) c.of-ranked.ensures) ∙ fine) ∙ sym c.budget_verdict.ensures ∙ c.in_ok-budget_verdict.was) after
