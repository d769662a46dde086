use mathlib.Core.Bool.{Bool, not}
use mathlib.Core.List.{List}
use mathlib.Core.Path.{sym, ◌∙◌, ap}
use Prim.Native.Nat.{ℕ}
use Rattle.model.specs.Walk.{is_empty}
use Rattle.matching.specs.Augmenting.{ground_in}
use Rattle.matching.proofs.Visits.Row.{any_begins, from-none, from_pass, from-take}
use Rattle.matching.proofs.augmenting.Ground.has_conflict.Goals as goal

-- some column is left
abbrev some_left : List ℕ → Bool
some_left js = not (is_empty js)

pub loop-t-init : goal.loop-t-init
loop-t-init c =
    let a = c.args in
    let G = ground_in a.self.now in
    let first = c.first_of-first in
    let last = c.end_of-end in
    any_begins G a.i first.result last.result first.ensures last.ensures.0 last.ensures.1

pub returns-then-at_odds : goal.returns-then-at_odds
unfolding is_empty
returns-then-at_odds c =
    let l = c.loop-t in
    let k = c.column_of in
    let o = c.at_odds in
    sym (ap some_left (l.invariant ∙ from-take (record { here = c.loop-t-test.true; same = k.ensures; odds_are = o.ensures }) c.if-at_odds.true))

pub loop-t-preserved : goal.loop-t-preserved
loop-t-preserved c =
    let l = c.loop-t in
    let k = c.column_of in
    let o = c.at_odds in
    l.invariant
    ∙ from_pass (record { here = c.loop-t-test.true; same = k.ensures; odds_are = o.ensures }) c.if-at_odds.false

pub returns : goal.returns
unfolding is_empty
returns c =
    let a = c.args in
    let G = ground_in a.self.now in
    let l = c.loop-t in
    let e = c.end_of-end in
    sym (ap some_left (l.invariant ∙ from-none G a.i e.result l.t c.loop-t-test.false))
