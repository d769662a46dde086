-- `pattern::volume_of` meets its contract. The lines held for both parts are the cut lines, and their number is the volume.
-- Assumes nothing.
use mathlib.Core.Path.{◌∙◌, ap}
use Rattle.counting.specs.Sums.{count}
use Rattle.pattern.specs.Splits.{both_held}
use Rattle.pattern.proofs.Lines.{volume-from}
use Rattle.pattern.proofs.splits.volume_of.Goals as goal

pub returns : goal.returns
returns c few =
    let a = c.args in
    let matrix = a.matrix.now in
    c.cuts_of.ensures
    ∙ ap (count (both_held _ _)) (rw (c.from.ensures, c.from-2.ensures))
    ∙ volume-from
    matrix.m
    matrix.n
    matrix.nonzeros
    matrix.list.now
    a.parts.now
    _
    _
    c.held_lines-zeros.ensures
    c.held_lines-ones.ensures
    few
