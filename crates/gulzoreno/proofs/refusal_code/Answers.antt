-- `gulzoreno::refusal_code` meets its contract.
-- Assumes nothing.
use borrow.Author.Rules.{rules}
use native.Mathlib.Omega.{arith}
use Rattle.model.specs.Refusal.{refusal_code, reply_code}
use Rattle.model.proofs.Theorems.Numbers.{number_range}
use Rattle.gulzoreno.proofs.refusal_code.Goals as goal

pub overflow_add-result : goal.overflow_add-result
overflow_add-result c = omega (arith, (number_range c.args.refusal.word).1, c.from.ensures)

pub returns : goal.returns
unfolding refusal_code reply_code
returns c = search rules
