-- `running::counts::count_one` meets its contract.
-- Assumes nothing.
use mathlib.Core.Bool.{not}
use mathlib.Core.Path.{◌≡◌, ap}
use Prim.Native.Nat.{ℕ, ◌+◌, ◌*◌}
use native.Mathlib.Omega.{arith}
use lib.ListN.{get_or, set}
use Rattle.model.specs.Limits.{line_room}
use Rattle.keeping.specs.Kinds.{cells}
use Rattle.keeping.proofs.Rooms.{moves}
use Rattle.keeping.proofs.Turns.{left-moved}
use Rattle.running.specs.Ways.{moved}
use Rattle.running.proofs.Ways.{AskedOne, asked_one}
use Rattle.running.proofs.counts.count_one.Goals as goal
use Rattle.running.proofs.counts.count_one.Goals.{Start, Joined-taken, then-taken, else-taken, then-taken-2, else-taken-2}

-- what is asked, for both ways
asked_here : (c : Start) → let a = c.args in AskedOne a.taken a.by.now a.left.now a.kinds.now a.tally.now a.sums.now a.y a.p
asked_here c = let a = c.args in asked_one a.taken a.by.now a.left.now a.kinds.now a.tally.now a.sums.now a.y a.p c.requires

-- the untaken nonzeros that are left
rest_is : (c : Joined-taken) → let a = c.args in c.if-taken.rest ≡ moved (not a.taken) (get_or a.left.now a.y 0)
rest_is c =
    elim c.if-taken.branch [ then-taken w ↦ rw w.if-taken.true w.rest-is | else-taken w ↦ rw w.if-taken.false w.rest-is ]

pub shift-requires : goal.shift-requires
shift-requires c =
    let a = c.args in
    let k = asked_here (goal.at.shift-requires c).Start in
    let rest = rest_is (goal.at.shift-requires c).Joined-taken in
    moves k.few (cells a.kinds.now) (cells a.left.now) a.y c.if-taken.rest k.line (omega (arith, rest, k.light)) k.tied

pub returns : goal.returns
returns c =
    let a = c.args in
    let k = asked_here (goal.at.returns c).Start in
    let rest = rest_is (goal.at.returns c).Joined-taken in
    let count : c.if-taken-2.by ≡ moved a.taken (get_or a.by.now (line_room * a.p + a.y) 0) =
    elim c.if-taken-2.branch [ then-taken-2 w ↦ rw w.if-taken-2.true w.by-is | else-taken-2 w ↦ rw w.if-taken-2.false w.by-is ] in (
      ap (λ (x : ℕ). set a.by.now (line_room * a.p + a.y) x) count,
      ap (λ (x : ℕ). set a.left.now a.y x) rest,
      λ P few line tied. left-moved
          (cells a.kinds.now)
          a.left.now
          a.y
          c.if-taken.rest
          (omega (arith, k.left_long, line, few))
          few
          line
          (omega (arith, rest, k.light))
          c.shift.ensures
          tied,
    )
