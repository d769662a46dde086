-- `running::presenting::show_split` meets its contract.
-- Assumes nothing.
use Rattle.bound.proofs.Evaluations.{listed_few}
use Rattle.running.proofs.Splits.{parts_shown, volume-shown}
use Rattle.running.proofs.presenting.show_split.Goals as goal

pub returns : goal.returns
returns c =
    let t = c.lines in
    let a = c.args in
    let x = a.ranked.now.matrix in
    let ready = a.ranked.now.made.ready in
    let parts = parts_shown x.m x.n x.nonzeros x.list.now a.ranked.now.places a.ranked.now.rows a.caps t.result a.best c.cleared.result c.marks_by_line-by_line.result a.parts.now _ c.taken_of-taken.result c.cleared.ensures t.ensures c.marks_by_line-by_line.ensures (c.taken_of-taken.ensures x.n) c.write_split.ensures in
    let volume = volume-shown x.m x.n x.nonzeros x.list.now a.ranked.now.places a.ranked.now.rows a.caps t.result a.best c.cleared.result c.marks_by_line-by_line.result a.parts.now _ c.taken_of-taken.result c.cleared.ensures t.ensures c.marks_by_line-by_line.ensures (c.taken_of-taken.ensures x.n) c.write_split.ensures in record { volume = λ short room. volume ready.listed ready.placed short c.volume_of.result room (c.volume_of.ensures (listed_few ready.listed)); parts = λ short. parts ready.listed ready.placed short }
