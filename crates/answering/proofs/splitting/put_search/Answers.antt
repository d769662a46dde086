-- `answering::splitting::put_search` meets its contract.
-- Assumes nothing.
use mathlib.Core.Path.{sym, ◌∙◌}
use borrow.Author.Rules.{rules}
use Rattle.counting.proofs.Joined.{never}
use Rattle.answering.proofs.Steps.{prints_answer, shown_line, shown-split}
use Rattle.answering.proofs.splitting.put_search.Goals as goal
use Rattle.answering.proofs.splitting.put_search.Goals.{in_default-via-in-Ok+in_default, in_default-via-in_default}

pub returns-in_default : goal.returns-in_default
returns-in_default c =
    let a = c.args in
    shown_line a.search a.rest a.text.m a.text.n a.text.nonzeros a.list.now _ c.show-shown.result c.show-shown.ensures.answer c.show-shown.ensures.parts
    (λ v f e. elim c.in_default.branch [
      | in_default-via-in-Ok+in_default w ↦ (let q = sym w.in_default.is ∙ e in
          search rules)
      | in_default-via-in_default w ↦ (let q = sym w.in_default.is ∙ e in
          never (cc))
    ])
    c.put_line.ensures

pub returns : goal.returns
returns c =
    let a = c.args in
    prints_answer
    (shown-split a.search a.rest a.text.m a.text.n a.text.nonzeros a.list.now _ c.show-shown.result c.show-shown.ensures.answer c.show-shown.ensures.parts c.in-Ok-Split.volume c.in-Ok-Split.floor _ c.in-Ok-Split.is (search rules) c.figures_of-figures.ensures)
    c.put_split.ensures
