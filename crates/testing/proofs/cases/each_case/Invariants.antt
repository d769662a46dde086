-- `testing::cases::each_case` meets its contract. The loop's invariant: the function may be called, and what the turns that are left come to is what all of them come to.
-- Assumes nothing.
use Rattle.std.proofs.Common.{◌-◌}
use denote.Param.Always.{always_mut}
use Rattle.testing.specs.Turns.{Answered}
use Rattle.testing.proofs.cases.each_case.Given as goal

abbrev pub invariant-loop : goal.invariant-loop
invariant-loop g l =
    always_mut g.F.FnMut l.answer
    × ((r : _) (last : _) → Answered g.F.FnMut l.end (l.end - l.counter) l.answer l.cases r last → Answered g.F.FnMut l.end l.end l.initial.answer l.initial.cases r last)
