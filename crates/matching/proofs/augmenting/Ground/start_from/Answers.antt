-- `matching::augmenting::Ground::start_from` meets its contract.
-- Assumes nothing.
use mathlib.Core.Path.{sym, ◌∙◌, ap}
use lib.ListN.{length}
use Rattle.matching.specs.Augmenting.{ground_in}
use Rattle.matching.proofs.Visits.Arrays.{none_long}
use Rattle.matching.proofs.Visits.Row.{some_inside}
use Rattle.matching.proofs.Visits.Starts.{start_passed, start_goes}
use Rattle.matching.proofs.augmenting.Ground.start_from.Goals as goal

pub row_visit-requires : goal.row_visit-requires
row_visit-requires c =
    let a = c.args in
    let G = ground_in a.self.now in
    let some = c.has_conflict in (
      some_inside G a.i (sym some.ensures ∙ c.if-has_conflict.true),
      ap length c.no_columns-seen.ensures ∙ none_long,
      c.requires,
    )

pub returns-then-has_conflict : goal.returns-then-has_conflict
returns-then-has_conflict c =
    let a = c.args in
    let G = ground_in a.self.now in
    let v = c.row_visit in
    let none = c.no_columns-seen in
    start_goes
    G
    a.i
    a.mate.now
    v.result
    none.result
    v.new.seen
    v.new.mate
    none.ensures
    v.ensures

pub returns : goal.returns
returns c =
    let a = c.args in
    let G = ground_in a.self.now in
    start_passed
    G
    a.i
    a.mate.now
    c.requires
    (sym c.has_conflict.ensures ∙ c.if-has_conflict.false)
