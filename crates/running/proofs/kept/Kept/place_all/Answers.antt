use mathlib.Core.Path.{◌≡◌, subst}
use Prim.Native.Nat.{ℕ, ◌<◌}
use native.Mathlib.Omega.{arith}
use Rattle.pattern.specs.Matrix.{pattern_in}
use Rattle.weighing.specs.Cells.{marking_in}
use Rattle.running.specs.Kept.{Keeps}
use Rattle.running.specs.Laying.{first_marks}
use Rattle.running.proofs.Firsts.{first_settable, holds-first, holds-next}
use Rattle.running.proofs.Evaluated.{given_at_lem}
use Rattle.running.proofs.kept.Kept.place_all.Goals as goal

pub loop-l-init : goal.loop-l-init
loop-l-init c = λ caps every fits h. holds-first c.args.crossed.now.made.laid.inside (marking_in c.args.given.now) h

pub bounds-given-l : goal.bounds-given-l
bounds-given-l c = omega (arith, c.requires.every, c.args.crossed.now.made.laid.few)

pub place_if-requires : goal.place_if-requires
place_if-requires c =
    let l = c.loop-l in
    let q = c.requires in
    let laid = c.args.crossed.now.made.laid in
    let μ = marking_in c.args.given.now in
    let few : l.l < 1024 = omega (arith, q.every, laid.few) in
    record {
      μ = first_marks μ l.l;
      settable = first_settable q.caps μ l.l _ laid.inside q.fits (omega (arith, q.every)) (given_at_lem c.args.given.now l.l few);
      holds = l.invariant q.caps q.every q.fits q.holds;
    }

pub loop-l-preserved : goal.loop-l-preserved
loop-l-preserved c =
    let l = c.loop-l in
    let laid = c.args.crossed.now.made.laid in
    let μ = marking_in c.args.given.now in
    let few : l.l < 1024 = omega (arith, c.requires.every, c.args.crossed.now.made.laid.few) in
    let marked = given_at_lem c.args.given.now l.l few in
    λ caps every fits none.
    holds-next laid.inside μ l.l _ marked
    (c.place_if.ensures (first_marks μ l.l) (first_settable caps μ l.l _ laid.inside fits (omega (arith, every)) marked) (l.invariant caps every fits none))

pub returns : goal.returns
returns c =
    λ caps every fits h.
    let P = pattern_in c.args.crossed.now.matrix in
    let l = c.loop-l in
    let e : l.l ≡ c.args.end = omega arith in
    subst
    (λ (x : ℕ). Keeps P (first_marks (marking_in c.args.given.now) x) l.self)
    e
    (l.invariant caps every fits h)
