-- `answering::splitting::answer` meets its contract.
-- Assumes nothing.
use mathlib.Core.Path.{sym, ◌∙◌}
use borrow.Author.Rules.{part_to_end}
use Rattle.answering.specs.Answer.{answer_text}
use Rattle.answering.proofs.Steps.{prints_answer, prints_refusal, line_right, line_wrong}
use Rattle.answering.proofs.splitting.answer.Goals as goal

pub returns-in_default : goal.returns-in_default
unfolding answer_text
returns-in_default c = prints_refusal (line_wrong c.args.input.now (sym c.command_of.ensures ∙ c.in_default.is)) c.put_refused.ensures

pub returns : goal.returns
unfolding answer_text
returns c =
    prints_answer
    (line_right c.args.input.now _ (sym c.command_of.ensures ∙ c.in-Some.is)
    ∙ rw (part_to_end c.args.input.now c.in-Some.command.next, c.from.ensures, c.from-2.ensures))
    c.put_text.ensures
