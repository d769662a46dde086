-- `state::line_total` meets its contract.
-- Assumes nothing.
use mathlib.Core.Path.{◌∙◌, ap}
use Rattle.marking.specs.Order.{total_by}
use Rattle.state.proofs.Totals.{total_of_counts}
use Rattle.state.proofs.lines.line_total.Goals as goal

pub returns : goal.returns
returns c few =
    let a = c.args in
    total_of_counts
    a.matrix.now.m
    a.matrix.now.n
    a.matrix.now.nonzeros
    a.matrix.now.list.now
    c.line_counts-counts.result
    c.total_of.result
    few
    c.line_counts-counts.ensures.1
    (c.total_of.ensures ∙ ap (total_by c.line_counts-counts.result) c.lines.ensures)
