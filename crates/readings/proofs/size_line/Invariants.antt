-- `readings::size_line` meets its contract. The loop's invariant: the text stays, and the size line from here on is that from the second line on.
-- Assumes nothing.
use Rattle.std.proofs.Common.{◌≡◌, length, ◌-◌}
use Rattle.scanning.specs.Lines.{line_next, size_line_at}
use Rattle.readings.proofs.size_line.Given as goal

abbrev pub invariant-loop-reading : goal.invariant-loop-reading
invariant-loop-reading l =
    (l.reading.text.now ≡ l.text)
    × (size_line_at l.text (length l.text) l.reading.at ≡ size_line_at l.text (length l.text) (line_next l.text 0))

abbrev pub decreases-loop-reading : goal.decreases-loop-reading
decreases-loop-reading l = length l.text - l.reading.at
