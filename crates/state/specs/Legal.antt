-- The marks of an array before an index: legal ones, and the number cut.
-- Assumes nothing.
use Rattle.std.specs.Prelude.{Bool, not, List, ℕ, eqb}
use Rattle.counting.specs.Tests.{◌and◌}
use Rattle.trail.specs.Trail.{mark_or}
use Rattle.model.specs.Walk.{cuts}
use Rattle.model.specs.State.{stack, are_marks, ones_allowed}

-- each is 0, 1 or cut
unfoldable pub marks_legal : List ℕ → ℕ → Bool
marks_legal marks end = are_marks (stack (mark_or 0 marks) end)

-- mark 1 stands where it is not allowed
unfoldable pub one_denied : ℕ → Bool → Bool
one_denied mark allowed = not allowed and eqb mark 1

-- mark 1 stands only where it is allowed
unfoldable pub ones_legal : Bool → List ℕ → ℕ → Bool
ones_legal first marks end = ones_allowed first (stack (mark_or 0 marks) end)

-- the number of marks cut before an index
unfoldable pub cuts_in : List ℕ → ℕ → ℕ
cuts_in marks end = cuts (stack (mark_or 0 marks) end)
