-- `bound::tables::places` meets its contract.
-- Assumes nothing.
use mathlib.Core.Path.{◌≡◌, sym, ◌∙◌, ap}
use Prim.Native.Nat.{ℕ, ◌+◌, ◌≤◌, ◌<◌}
use native.Mathlib.Omega.{arith}
use lib.ListN.{get_or}
use Rattle.model.specs.Limits.{line_limit, line_room}
use Rattle.model.specs.Pattern.{pattern_of, lines}
use Rattle.model.proofs.Theorems.OfList.{lines_of}
use Rattle.pattern.proofs.Within.{within_all}
use Rattle.marking.specs.Order.{place_in}
use Rattle.marking.proofs.Ordered.{places_are, places_past}
use Rattle.bound.proofs.tables.places.Goals as goal

pub returns : goal.returns
returns c nonzeros list room counted thin =
    let a = c.args in
    let x = a.matrix.now in
    let P = pattern_of x.m x.n nonzeros list in
    let all = lines_of x.m x.n nonzeros list in
    let few : lines P ≤ line_room = omega (arith, all) in
    let light : (i : ℕ) → i < line_room → get_or a.counts.now i 0 ≤ line_limit = λ i b. omega (arith, counted i b, thin i) in
    let each : (i : ℕ) → i < line_room → get_or c.places_of.result i 0 ≡ place_in a.counts.now (lines P) i =
    λ i b. c.places_of.ensures.1 light i b
    ∙ ap (λ (k : ℕ). place_in a.counts.now k i) (c.lines.ensures ∙ within_all (x.m + x.n) room ∙ sym all) in
    record {
      placed = places_are P a.counts.now c.places_of.result few counted each;
      others = places_past P a.counts.now c.places_of.result each;
    }
