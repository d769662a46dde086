-- `bound::lower::matched_of` meets its contract.
-- Assumes nothing.
use mathlib.Core.Path.{sym, ◌∙◌}
use native.Mathlib.Omega.{arith}
use Rattle.counting.proofs.Joined.{pick_true, pick-false}
use Rattle.matching.specs.Augmenting.{ground_in, matching_in}
use Rattle.bound.specs.Evaluated.{no_matching}
use Rattle.bound.proofs.lower.matched_of.Goals as goal

pub returns-then-none : goal.returns-then-none
returns-then-none c =
    (sym (pick_true no_matching (matching_in (ground_in c.args.over.now)) c.if-none.true), omega arith)

pub returns-else-none : goal.returns-else-none
returns-else-none c =
    let M = matching_in (ground_in c.args.over.now) in
    (c.matching_of.ensures.0 ∙ sym (pick-false no_matching M c.if-none.false), omega arith)
