-- `texts::read` meets its contract.
-- Assumes nothing.
use mathlib.Core.Path.{sym, ◌∙◌}
use Rattle.std.proofs.lemmas.Result.{err_from_is_err_and}
use Rattle.texts.proofs.Answers.{head_lines, read_answer-is, read_list-is, read_parts-is, read_refused, read_list_kept, read_parts_kept, read_told}
use Rattle.texts.proofs.read.read.Goals as goal

pub returns-in_err-head_verdict : goal.returns-in_err-head_verdict
returns-in_err-head_verdict c =
    let h = c.header_of-header.ensures in
    let v = c.head_verdict.ensures in
    let a = c.in_err-head_verdict.was in
    let p = err_from_is_err_and c.from_residual.result c.from_residual.ensures.1 in
    let q = p.1 ∙ rw p.2 (read_refused _ _ _ _ _ h v _ a) in
    record { answer = q; list = read_list_kept _ _ _ _ _ h v _ a; parts = read_parts_kept _ _ _ _ _ h v _ a; reply = read_told _ _ _ q }

pub read_entries-requires : goal.read_entries-requires
read_entries-requires c = (head_lines _ _ _ _ (sym c.head_verdict.ensures ∙ c.in_ok-head_verdict.was)).0

pub returns : goal.returns
returns c =
    let h = c.header_of-header.ensures in
    let v = c.head_verdict.ensures in
    let a = c.in_ok-head_verdict.was in
    let r = c.read_entries.ensures in
    let q = read_answer-is _ _ _ _ _ h v _ a r.answer in
    record { answer = q; list = read_list-is _ _ _ _ _ h v _ a r.list; parts = read_parts-is _ _ _ _ _ h v _ a r.parts; reply = read_told _ _ _ q }
