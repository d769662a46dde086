-- Marks by line.
-- Assumes nothing.
use Rattle.std.specs.Prelude.{List, ℕ, ◌%◌, get_or}
use Rattle.model.specs.Limits.{line_room}
use Rattle.model.specs.Marking.{Marking}

-- the marking of an array of marks by line; a line past the array's end, which no accepted list has, is folded into it
unfoldable pub marking_in : List ℕ → Marking
marking_in marks l = get_or marks (l % line_room) 0
