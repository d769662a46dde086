-- The marks of lines in an array, from the marks by place.
-- Assumes nothing.
use Rattle.std.specs.Prelude.{List, ℕ, ltb, get_or, replicate}
use Rattle.counting.specs.Tests.{◌and◌, pick}
use Rattle.trail.specs.Trail.{mark_room}
use Rattle.model.specs.Limits.{line_room}
use Rattle.model.specs.Marking.{unmarked}

-- the mark at a place, or `unmarked` past the last of so many marks
unfoldable pub mark_by : List ℕ → ℕ → ℕ → ℕ
mark_by marks len i = pick (ltb i len and ltb i mark_room) (get_or marks i 0) unmarked

-- the mark of each of the first lines, and `unmarked` for the others
unfoldable pub mark_for : ℕ → List ℕ → List ℕ → ℕ → ℕ → ℕ
mark_for lines places marks len l = pick (ltb l lines) (mark_by marks len (get_or places l 0)) unmarked

-- no line is marked
unfoldable pub unmarked_lines : List ℕ
unmarked_lines = replicate line_room unmarked
