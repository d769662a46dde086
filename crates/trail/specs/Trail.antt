-- What the methods of a trail do, a stack of marks in an array.
-- Assumes nothing.
use Rattle.std.specs.Prelude.{Bool, false, List, ℕ, zero, suc, ◌+◌, ◌-◌, ltb, get_or, set}
use Rattle.counting.specs.Tests.{◌or◌, pick}
use Rattle.trail.specs.declared.Trail.{Trail}

-- room for a mark of every line, of 300 rows and 300 columns
abbrev pub mark_room : ℕ
mark_room = 600

-- the index of the last of so many marks, or the array's end where there is none
unfoldable pub top_of : ℕ → ℕ
top_of len = pick (ltb 0 len) (len - 1) mark_room

-- the trail of these marks and this length
abbrev pub trail_with : List ℕ → ℕ → Trail
trail_with marks len = record { marks = marks; len = len }

-- this mark at this index, and this length
abbrev pub with_mark : Trail → ℕ → ℕ → ℕ → Trail
with_mark t at mark len = trail_with (set t.marks at mark) len

-- one mark more, where there is room
unfoldable pub appended : Trail → ℕ → Trail
appended t mark = pick (ltb t.len mark_room) (with_mark t t.len mark (t.len + 1)) t

-- without the mark at this index, the last
unfoldable pub dropped_at : Trail → ℕ → Trail
dropped_at t at = pick (ltb at mark_room) (with_mark t at 0 at) t

-- without the last mark
unfoldable pub dropped : Trail → Trail
dropped t = dropped_at t (top_of t.len)

-- the mark at an index, or `none` past the array's end
unfoldable pub mark_or : ℕ → List ℕ → ℕ → ℕ
mark_or none marks i = pick (ltb i mark_room) (get_or marks i 0) none

-- a mark is 0 or 1
abbrev pub is_part : ℕ → Bool
is_part mark = ltb mark 2

-- some mark before this index is 0 or 1
unfoldable pub gives_part_in : List ℕ → ℕ → Bool
gives_part_in marks zero = false
gives_part_in marks (suc i) = is_part (mark_or 0 marks i) or gives_part_in marks i

-- mark 1 is allowed at this index: it may come first, or some mark before it is 0 or 1
unfoldable pub one_at : Bool → List ℕ → ℕ → Bool
one_at first marks i = first or gives_part_in marks i
