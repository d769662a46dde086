-- `search::show` meets its contract.
-- Assumes nothing.
use mathlib.Core.Path.{◌∙◌, ap}
use Rattle.model.specs.Calls.{show_reply}
use Rattle.model.proofs.Theorems.Replies.{show_replies_lem}
use borrow.Author.Rules.{rules}
use Rattle.search.proofs.show.Goals as goal

pub returns : goal.returns
returns c =
    let shown = c.show_search in record { answer = shown.ensures.answer; parts = search rules; reply = ap show_reply shown.ensures.answer ∙ show_replies_lem _ _ _ _ _ _ }
