-- Document 01, 'Texts' and 'Refusal table', and request 1 of document 02: the entries in text order, each 3, 5, 16 for symmetric, 8, 6, with 7 for one too many or missing.
-- Assumes nothing.
use Rattle.std.specs.Prelude.{Bool, not, Result, Ok, Err, List, ℕ, zero, suc, ◌+◌, ◌-◌, ◌*◌, eqb, ltb, leb, length, get_or, set, replicate}
use Rattle.counting.specs.Tests.{◌and◌, ◌or◌, pick, bit}
use Rattle.model.specs.declared.Word.TheVariants.{EntryForm, OffMatrix, Repeated, Count, BadPart, AboveDiagonal}
use Rattle.model.specs.Limits.{line_limit}
use Rattle.model.specs.Refusal.{Verdict, accepted, refused, refuse, ◌then◌}
use Rattle.model.specs.Calls.{outside}
use Rattle.texts.specs.declared.Header.{Header}
use Rattle.scanning.specs.declared.Numbers.{Numbers}
use Rattle.scanning.specs.Lines.{line_end, line_next, empty_line}
use Rattle.scanning.specs.Words.{numbers_at, numbers_in}

-- the entry of a line: "i j", "i j p" for integer, or "i j v" for real
unfoldable pub entry_at : List ℕ → Header → ℕ → Result Numbers Numbers
entry_at text h at = numbers_at text at (line_end text at) h.field

-- the cell of row i and column j, counted from 1, in a table with line_limit cells for each row
unfoldable pub cell_of : ℕ → ℕ → ℕ
cell_of i j = line_limit * (i - 1) + (j - 1)

-- the cells of such a table
abbrev pub cell_room : ℕ
cell_room = line_limit * line_limit

-- a table of cells with nothing given
unfoldable pub no_cells : List ℕ
no_cells = replicate cell_room 0

-- the nonzero of a cell is given
unfoldable pub is_given : List ℕ → ℕ → Bool
is_given cells p = not (eqb (get_or cells p 0) 0)

-- p is 1 for part 0 and 2 for part 1: what stands in the cell of a nonzero that is given
unfoldable pub cell_mark : ℕ → ℕ
cell_mark p = pick (eqb p 1) 1 2

-- the cell of an entry's other nonzero: for symmetric that of row j and column i, else its own again
unfoldable pub mirror_of : Header → Numbers → ℕ
mirror_of h e = pick h.symmetric (cell_of e.second e.first) (cell_of e.first e.second)

-- above the diagonal: symmetric, with i less than j
unfoldable pub above_diagonal : Header → Numbers → Bool
above_diagonal h e = h.symmetric and ltb e.first e.second

-- 3, 5, 16 for symmetric, 8, 6: the checks of an entry
unfoldable pub entry_check : Header → Result Numbers Numbers → ℕ → List ℕ → Verdict
entry_check h (Err e) place cells = refused EntryForm place
entry_check h (Ok e) place cells =
    refuse (outside h.m e.first or outside h.n e.second) OffMatrix place
    then refuse (above_diagonal h e) AboveDiagonal place
    then refuse (outside 2 e.third) BadPart place
    then refuse (is_given cells (cell_of e.first e.second)) Repeated place

-- the checks of a line after the size line, with so many entries before it: an empty line is skipped, a line past the last entry is 7
unfoldable pub line_verdict : List ℕ → Header → ℕ → ℕ → List ℕ → Verdict
line_verdict text h at count cells =
    pick
    (empty_line text at)
    accepted
    (refuse (leb h.entries count) Count at then entry_check h (entry_at text h at) at cells)

-- the cells after an entry: it stands for its own nonzero and the other, both in its part
unfoldable pub opened : Header → Numbers → List ℕ → List ℕ
opened h e cells =
    let mark = cell_mark e.third in
    set (set cells (cell_of e.first e.second) mark) (mirror_of h e) mark

-- the cells after a line
unfoldable pub noted : List ℕ → Header → ℕ → List ℕ → List ℕ
noted text h at cells =
    pick (empty_line text at) cells (opened h (numbers_in (entry_at text h at)) cells)

-- 7: an entry missing
unfoldable pub end_verdict : ℕ → Header → ℕ → Verdict
end_verdict len h count = refuse (ltb count h.entries) Count len

-- what reading the entries gives: a verdict, and the cells of the entries accepted
pub record Entries : Type 0 where
  pub verdict : Verdict
  pub cells : List ℕ

-- after a line with this verdict: the first refusal ends the reading
unfoldable pub after : Verdict → List ℕ → Entries → Entries
after (Ok _) cells rest = rest
after (Err refusal) cells rest = record { verdict = Err refusal; cells = cells }

-- the lines from `at` on, with so many entries before them, looking at so many lines
unfoldable pub entries_from : List ℕ → Header → ℕ → ℕ → ℕ → List ℕ → Entries
entries_from text h zero at count cells =
    record { verdict = end_verdict (length text) h count; cells = cells }
entries_from text h (suc k) at count cells =
    pick
    (ltb at (length text))
    (after
    (line_verdict text h at count cells)
    cells
    (entries_from text h k (line_next text at) (count + bit (not (empty_line text at))) (noted text h at cells)))
    (record { verdict = end_verdict (length text) h count; cells = cells })
