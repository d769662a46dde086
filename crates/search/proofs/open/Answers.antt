-- `search::open` meets its contract. The casts fit where the list is accepted.
-- Assumes nothing.
use mathlib.Core.Path.{sym, ◌∙◌}
use native.Mathlib.Omega.{arith}
use Rattle.model.proofs.Theorems.Replies.{open_told}
use Rattle.model.proofs.Theorems.Accepted.{ListFine, list_accepted, open_accepted}
use Rattle.search.proofs.Openings.{open_answer}
use Rattle.search.proofs.open.Goals as goal

pub overflow_cast-matrix : goal.overflow_cast-matrix
overflow_cast-matrix c = record { fits = omega (arith, (list_accepted _ _ _ _ (open_accepted _ _ _ _ _ (sym c.open_verdict.ensures.verdict ∙ c.in_ok-open_verdict.was)).listed).rows_to) }

pub overflow_cast-matrix-2 : goal.overflow_cast-matrix-2
overflow_cast-matrix-2 c = record { fits = omega (arith, (list_accepted _ _ _ _ (open_accepted _ _ _ _ _ (sym c.open_verdict.ensures.verdict ∙ c.in_ok-open_verdict.was)).listed).columns_to) }

pub overflow_cast-matrix-3 : goal.overflow_cast-matrix-3
overflow_cast-matrix-3 c = record { fits = omega (arith, (list_accepted _ _ _ _ (open_accepted _ _ _ _ _ (sym c.open_verdict.ensures.verdict ∙ c.in_ok-open_verdict.was)).listed).size_to) }

pub returns : goal.returns
returns c =
    let opens = sym c.open_verdict.ensures.verdict ∙ c.in_ok-open_verdict.was in
    let list = list_accepted _ _ _ _ (open_accepted _ _ _ _ _ opens).listed in
    let k = c.line_total.ensures (omega (arith, list.rows_to, list.columns_to)) in
    let told = open_told _ _ _ _ _ (open_answer _ _ _ _ _ _ _ opens k c.fresh_search.ensures) in
    record { answer = told.0; reply = told.1 }
