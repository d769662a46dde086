-- `running::tally::lean` meets its contract.
-- Assumes nothing.
use mathlib.Core.Path.{sym, ◌∙◌, ap}
use Prim.Native.Nat.{ℕ}
use native.Mathlib.Omega.{arith}
use lib.ListN.{get_or}
use Rattle.counting.proofs.Joined.{no_way}
use Rattle.keeping.specs.Tied.{tally_place, both_place}
use Rattle.running.proofs.Ways.{Asked, asked, way_long, way_else, changeable_as, added-leaning}
use Rattle.running.proofs.tally.lean.Goals as goal
use Rattle.running.proofs.tally.lean.Goals.{After-from}

-- what is asked, for both ways
asked_here : (c : After-from) → Asked c.args.up c.args.p c.args.own c.args.same c.args.other c.args.tally.now c.args.sums.now
asked_here c = let a = c.args in asked a.up a.p a.own a.same a.other a.tally.now a.sums.now c.requires.1

pub step-requires : goal.step-requires
step-requires c =
    let a = c.args in
    let k = asked_here (goal.at.step-requires c).After-from in (
      k.tally_long,
      omega (arith, c.from.ensures, c.requires.0, k.light),
      changeable_as a.up _ _ _ _ (ap (λ (x : ℕ). get_or a.tally.now (tally_place a.p x) 0) (sym c.from.ensures)) (k.line c.requires.0),
    )

pub change-requires : goal.change-requires
change-requires c =
    let a = c.args in
    let k = asked_here (goal.at.change-requires c).After-from in (
      k.sums_long,
      omega (arith, c.requires.0),
      rw c.from-2.ensures (k.own_room c.requires.0),
    )

pub change-requires-2 : goal.change-requires-2
change-requires-2 c =
    let a = c.args in
    let k = asked_here (goal.at.change-requires-2 c).After-from in
    let first = c.change.ensures in (
      way_long a.up _ _ _ _ first ∙ k.sums_long,
      omega (arith, c.requires.0),
      changeable_as
          a.up
          _
          _
          _
          _
          (way_else a.up _ _ _ _ first (both_place a.p) (λ s. no_way (omega (arith, c.requires.0))) (omega (arith, c.requires.0, k.sums_long)))
          (k.same_room c.requires.0),
    )

pub change-requires-3 : goal.change-requires-3
change-requires-3 c =
    let a = c.args in
    let k = asked_here (goal.at.change-requires-3 c).After-from in
    let first = c.change.ensures in
    let second = c.change-2.ensures in
    let long = way_long a.up _ _ _ _ first ∙ k.sums_long in (
      way_long a.up _ _ _ _ second ∙ long,
      omega arith,
      changeable_as
          a.up
          _
          _
          _
          _
          (way_else a.up _ _ _ _ first 5 (λ s. no_way (omega (arith, c.requires.0))) (omega (arith, k.sums_long))
          ∙ way_else a.up _ _ _ _ second 5 (λ s. no_way (omega (arith, c.requires.0))) (omega (arith, long)))
          (k.other_room c.requires.0),
    )

pub returns : goal.returns
returns c =
    let a = c.args in
    added-leaning
    a.up
    a.p
    a.own
    a.same
    a.other
    a.tally.now
    a.sums.now
    _
    _
    _
    _
    c.requires.0
    (asked_here (goal.at.returns c).After-from)
    (rw c.from.ensures at c.step.ensures)
    (rw c.from-2.ensures at c.change.ensures)
    c.change-2.ensures
    c.change-3.ensures
