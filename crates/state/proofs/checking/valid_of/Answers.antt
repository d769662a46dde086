-- `state::valid_of` meets its contract.
-- Assumes nothing.
use Rattle.state.proofs.Validities.{valid_cleared}
use Rattle.state.proofs.checking.valid_of.Goals as goal

pub returns : goal.returns
returns c =
    let a = c.args in
    valid_cleared
    a.matrix.now.m
    a.matrix.now.n
    a.matrix.now.nonzeros
    a.matrix.now.list.now
    a.places.now
    c.marks_by_line-by_line.result
    c.lines.result
    a.caps
    a.trail
    c.cleared.result
    c.taken_of.result
    c.is_valid.result
    c.cleared.ensures
    c.lines.ensures
    c.marks_by_line-by_line.ensures
    (c.taken_of.ensures a.matrix.now.n)
    c.is_valid.ensures
