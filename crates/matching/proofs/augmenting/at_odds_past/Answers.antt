-- `matching::augmenting::at_odds_past` meets its contract.
-- Assumes nothing.
use mathlib.Core.Path.{sym, ◌∙◌}
use borrow.Author.Tests.{lt-ltb, le-ltb}
use Rattle.counting.proofs.Joined.{and_passed, and_fails_left}
use Rattle.matching.specs.Augmenting.{side_room}
use Rattle.matching.proofs.augmenting.at_odds_past.Goals as goal

pub returns-then-j-lt-SIDE_ROOM : goal.returns-then-j-lt-SIDE_ROOM
returns-then-j-lt-SIDE_ROOM c =
    let a = c.args in
    c.differ.ensures ∙ sym (and_passed _ (lt-ltb a.j side_room c.if-j-lt-SIDE_ROOM.true))

pub returns-else-j-lt-SIDE_ROOM : goal.returns-else-j-lt-SIDE_ROOM
returns-else-j-lt-SIDE_ROOM c =
    let fails = le-ltb c.args.j side_room c.if-j-lt-SIDE_ROOM.false in
    fails ∙ sym (and_fails_left _ fails)
