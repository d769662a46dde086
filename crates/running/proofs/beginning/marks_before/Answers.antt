-- `running::beginning::marks_before` meets its contract.
-- Assumes nothing.
use mathlib.Core.Path.{◌∙◌, ap}
use native.Mathlib.Omega.{arith}
use Rattle.trail.specs.Trail.{dropped}
use Rattle.trail.specs.declared.Trail.{Trail}
use Rattle.model.specs.State.{trail_of}
use Rattle.packing.specs.Packed.{earlier}
use Rattle.bound.proofs.Evaluations.{listed_few, by_line}
use Rattle.running.proofs.Turns.{earlier-length}
use Rattle.running.proofs.Beginnings.{dropped-earlier}
use Rattle.running.proofs.beginning.marks_before.Goals as goal

pub returns : goal.returns
unfolding trail_of
returns c = λ τ held short l b.
    let t = c.args.tables.now in
    let x = t.crossed.matrix in
    let ready = t.made.ready in
    let e = c.drop.ensures ∙ ap dropped held ∙ dropped-earlier τ short in
    by_line
    x.m
    x.n
    x.nonzeros
    x.list.now
    _
    c.drop.result.marks
    c.marks_by_line.result
    c.drop.result.len
    _
    c.lines.ensures
    (listed_few ready.listed)
    c.marks_by_line.ensures
    ready.placed
    (earlier τ)
    (omega (arith, earlier-length τ))
    (ap (λ (t : Trail). t.marks) e)
    (ap (λ (t : Trail). t.len) e)
    l
    b
