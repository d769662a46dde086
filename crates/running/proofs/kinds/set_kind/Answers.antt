-- `running::kinds::set_kind` meets its contract.
-- Assumes nothing.
use mathlib.Core.Path.{◌≡◌, refl, ◌∙◌, ap}
use Prim.Native.Nat.{ℕ, ◌+◌, ◌<◌}
use native.Mathlib.Omega.{arith}
use lib.ListN.{length, get_or}
use Rattle.keeping.specs.Tied.{near_place}
use Rattle.keeping.proofs.Turns.{turn_leaves, turn_out, turn_in, turn_enters, turned}
use Rattle.running.proofs.kinds.set_kind.Goals as goal
use Rattle.running.proofs.kinds.set_kind.Goals.{After-from-one}

-- the place where the numbers of crossing lines of line y have been read
abbrev NearRead : Type 0
NearRead =
    After-from-one

-- they are those of kind 0
zero_is : (c : NearRead) →
    let a = c.args in
    c.from-zero.result ≡ get_or a.tally.now (near_place 0 a.y) 0
zero_is c =
    let a = c.args in
    let e : 602 + a.y ≡ near_place 0 a.y = omega arith in
    c.from-zero.ensures ∙ ap (λ (i : ℕ). get_or a.tally.now i 0) e

-- and of kind 1
one-is : (c : NearRead) →
    let a = c.args in
    c.from-one.result ≡ get_or a.tally.now (near_place 1 a.y) 0
one-is c =
    let a = c.args in
    let e : 602 + 1024 + a.y ≡ near_place 1 a.y = omega arith in
    c.from-one.ensures ∙ ap (λ (i : ℕ). get_or a.tally.now i 0) e

pub count_line-requires : goal.count_line-requires
count_line-requires c =
    let a = c.args in
    turn_leaves c.requires.laid a.kinds.now a.left.now a.y c.from-zero.result c.from-one.result c.requires.line (zero_is (goal.at.count_line-requires c).After-from-one) (one-is (goal.at.count_line-requires c).After-from-one) c.requires.tied

pub shift_near-requires : goal.shift_near-requires
shift_near-requires c =
    let a = c.args in
    turn_out c.requires.laid a.kinds.now a.left.now a.y c.from-zero.result c.from-one.result c.requires.line (zero_is (goal.at.shift_near-requires c).After-from-one) (one-is (goal.at.shift_near-requires c).After-from-one) c.requires.tied c.count_line.ensures

pub shift_near-requires-2 : goal.shift_near-requires-2
shift_near-requires-2 c =
    let a = c.args in
    turn_in c.requires.laid a.kinds.now a.left.now a.y c.from-zero.result c.from-one.result c.requires.line (zero_is (goal.at.shift_near-requires-2 c).After-from-one) (one-is (goal.at.shift_near-requires-2 c).After-from-one) c.requires.tied c.count_line.ensures (c.shift_near.ensures c.requires.pattern c.requires.laid c.requires.line) a.to

pub count_line-requires-2 : goal.count_line-requires-2
count_line-requires-2 c =
    let a = c.args in
    let P = c.requires.pattern in
    turn_enters c.requires.laid a.kinds.now a.left.now a.y c.from-zero.result c.from-one.result c.requires.line (zero_is (goal.at.count_line-requires-2 c).After-from-one) (one-is (goal.at.count_line-requires-2 c).After-from-one) c.requires.tied c.count_line.ensures (c.shift_near.ensures P c.requires.laid c.requires.line) a.to (c.shift_near-2.ensures P c.requires.laid c.requires.line)

pub returns : goal.returns
returns c =
    let a = c.args in
    let long : a.y < length a.kinds.now = omega (arith, c.requires.kinds_long, c.requires.line, c.requires.laid.few) in (
      refl,
      λ P laid line tied. turned laid a.kinds.now a.left.now a.y c.from-zero.result c.from-one.result line (zero_is (goal.at.returns c).After-from-one) (one-is (goal.at.returns c).After-from-one) tied c.count_line.ensures (c.shift_near.ensures P laid line) a.to (c.shift_near-2.ensures P laid line) long c.count_line-2.ensures,
    )
