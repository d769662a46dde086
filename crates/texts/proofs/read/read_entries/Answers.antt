-- `texts::read_entries` meets its contract: what is refused below the size line, by a line, by a missing entry or for the room of an opened text.
-- Assumes nothing.
use mathlib.Core.Path.{refl, sym, ◌∙◌, ap}
use lib.ListN.{length}
use Rattle.std.proofs.lemmas.Result.{err_from_is_err_and}
use Rattle.model.specs.Refusal.{◌then◌}
use Rattle.model.proofs.Theorems.Checks.{then_accepted}
use Rattle.texts.specs.Reading.{opened_verdict}
use Rattle.texts.proofs.Answers.{no_cells_lem, cells_are, nonzeros_are, below_is, answer-read, list_read, parts_read, answer_refused, list_kept, parts_kept}
use Rattle.texts.proofs.read.read_entries.Goals as goal

pub returns-in_err-entries : goal.returns-in_err-entries
returns-in_err-entries c =
    let e = c.note_entries-entries.ensures in
    let n = c.count_given-nonzeros.ensures in
    let p = err_from_is_err_and c.from_residual.result c.from_residual.ensures.1 in
    let v = below_is c.args.text.now c.args.header _ no_cells_lem _ _ _ _ _ (length c.args.list.now) (length c.args.parts.now) e.verdict e.noted n refl refl in
    let a = ap (λ v. v then opened_verdict c.args.header c.count_given-nonzeros.result (length c.args.list.now) (length c.args.parts.now)) c.in_err-entries.was in
    record {
      answer = p.1 ∙ rw p.2 (answer_refused _ _ _ v _ a _);
      list = list_kept _ _ _ v _ a _ _;
      parts = parts_kept _ _ _ v _ a _ _;
    }

pub returns-in_err-opened_verdict : goal.returns-in_err-opened_verdict
returns-in_err-opened_verdict c =
    let e = c.note_entries-entries.ensures in
    let n = c.count_given-nonzeros.ensures in
    let p = err_from_is_err_and c.from_residual-in_err-opened_verdict.result c.from_residual-in_err-opened_verdict.ensures.1 in
    let v = below_is c.args.text.now c.args.header _ no_cells_lem _ _ _ _ _ _ _ e.verdict e.noted n c.opened_verdict.ensures refl in
    let a = then_accepted _ c.in_ok-entries.was ∙ c.in_err-opened_verdict.was in
    record {
      answer = p.1 ∙ rw p.2 (answer_refused _ _ _ v _ a _);
      list = list_kept _ _ _ v _ a _ _;
      parts = parts_kept _ _ _ v _ a _ _;
    }

pub returns : goal.returns
returns c =
    let e = c.note_entries-entries.ensures in
    let n = c.count_given-nonzeros.ensures in
    let v = below_is c.args.text.now c.args.header _ no_cells_lem _ _ _ _ _ _ _ e.verdict e.noted n c.opened_verdict.ensures refl in
    let a = then_accepted _ c.in_ok-entries.was ∙ c.in_ok-opened_verdict.was in
    let cells = cells_are _ _ _ no_cells_lem _ e.noted in
    record {
      answer = cc (answer-read c.args.header _ _ v a _ _ _ (nonzeros_are c.args.text.now c.args.header _ no_cells_lem _ _ e.noted n) c.is_integer.ensures);
      list = list_read _ _ _ v a _ _ _ _ cells c.give.ensures.list;
      parts = parts_read _ _ _ v a _ _ _ _ cells c.give.ensures.parts;
    }
