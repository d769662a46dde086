-- Document 01, 'Texts': lines, by the offset of their first byte; empty lines, comments, and where the size line is.
-- Assumes nothing.
use Rattle.std.specs.Prelude.{Bool, true, false, List, ℕ, zero, suc, ◌+◌, ◌-◌, eqb, ltb, length, get_or}
use Rattle.counting.specs.Tests.{◌and◌, ◌or◌, pick}
use Rattle.scanning.specs.declared.Stretch.{Stretch}
use Rattle.scanning.specs.declared.Stretch.TheVariants.{Line, Blanks}
use Rattle.scanning.specs.Classes.{class_of, is_percent, stretches_over}

-- the first number from `at` on that fails the test, looking at so many
unfoldable pub past : (ℕ → Bool) → ℕ → ℕ → ℕ
past test at zero = at
past test at (suc k) = pick (test at) (past test (at + 1) k) at

-- a stretch goes on over the byte at a place
unfoldable pub stretches_at : Stretch → List ℕ → ℕ → Bool
stretches_at stretch text at = stretches_over stretch (class_of (get_or text at 0))

-- where a stretch that starts at a place ends, with `stop` as its end at the latest
unfoldable pub stretch_end : Stretch → List ℕ → ℕ → ℕ → ℕ
stretch_end stretch text at stop = past (stretches_at stretch text) at (stop - at)

-- lines end in LF; the last may lack it
unfoldable pub line_stop : List ℕ → ℕ → ℕ
line_stop text at = stretch_end Line text at (length text)

-- a CR just before the LF at `stop`, in the line that starts at `at`
unfoldable pub has_return : List ℕ → ℕ → ℕ → Bool
has_return text at stop = ltb stop (length text) and (ltb at stop and eqb (get_or text (stop - 1) 0) 13)

-- where a line ends: a CR just before LF is dropped
unfoldable pub line_end : List ℕ → ℕ → ℕ
line_end text at =
    let stop = line_stop text at in
    pick (has_return text at stop) (stop - 1) stop

-- the offset of the next line's first byte, or the text's length
unfoldable pub line_next : List ℕ → ℕ → ℕ
line_next text at =
    let stop = line_stop text at in
    pick (ltb stop (length text)) (stop + 1) stop

-- empty: a line of nothing but blanks
unfoldable pub empty_line : List ℕ → ℕ → Bool
empty_line text at = eqb (stretch_end Blanks text at (line_end text at)) (line_end text at)

-- comment: a line starting with %
unfoldable pub is_comment : List ℕ → ℕ → Bool
is_comment text at = is_percent (class_of (get_or text at 0))

-- passed over: an empty line, and a comment where comments are allowed
abbrev pub passed_over : Bool → List ℕ → ℕ → Bool
passed_over false text at = empty_line text at
passed_over true text at = empty_line text at or is_comment text at

-- skipped before the size line: empty lines and comments
unfoldable pub skipped : List ℕ → ℕ → Bool
skipped text at = ltb at (length text) and passed_over true text at

-- the first line from `at` on that is not skipped, or the text's length, looking at so many lines
unfoldable pub size_line_at : List ℕ → ℕ → ℕ → ℕ
size_line_at text zero at = at
size_line_at text (suc k) at = pick (skipped text at) (size_line_at text k (line_next text at)) at
