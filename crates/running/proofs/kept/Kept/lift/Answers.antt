use mathlib.Core.Path.{◌≡◌, ◌∙◌, subst}
use Prim.Native.Nat.{ℕ, ◌+◌, ◌-◌, ◌≤◌}
use native.Mathlib.Omega.{arith}
use Rattle.model.specs.Marking.{marking}
use Rattle.model.specs.State.{stack}
use Rattle.pattern.specs.Matrix.{pattern_in}
use Rattle.running.specs.Kept.{Keeps}
use Rattle.running.proofs.Placed.{standing-first, standing-room, standing_few, place-next, lift_holds}
use Rattle.running.proofs.kept.Kept.lift.Goals as goal
use Rattle.running.proofs.kept.Kept.lift.Goals.{Start}

-- the marks of the contract's trail are few
few : (c : Start) → c.args.from ≤ 600
few c = standing_few c.requires.caps c.requires.mark c.args.from c.args.tables.now.made.tabled.laid c.requires.standing

pub loop-at-init : goal.loop-at-init
loop-at-init c = (λ b. omega arith, λ caps mark s h. h)

pub offset_bounds-tables-at : goal.offset_bounds-tables-at
offset_bounds-tables-at c = let h = few (goal.at.offset_bounds-tables-at c).Start in omega arith

pub bounds-tables-at : goal.bounds-tables-at
bounds-tables-at c = let h = few (goal.at.bounds-tables-at c).Start in omega arith

pub pop-requires : goal.pop-requires
pop-requires c =
    let l = c.loop-at in
    let q = c.requires in
    let t = c.args.tables.now in
    let P = pattern_in t.crossed.matrix in
    let laid = t.made.tabled.laid in
    let d = l.at - 1 in
    let e : l.at ≡ d + 1 = omega arith in
    let s = standing-first q.mark (d + 1) c.args.from (omega arith) q.standing in
    let there = c.from.ensures ∙ t.made.tabled.ordered.line_is d (standing-room P q.caps q.mark d c.args.from (omega arith) q.standing) in
    record {
      pattern = P;
      μ = marking P (stack q.mark d);
      p = q.mark d;
      laid = laid;
      placeable = place-next laid.inside q.caps q.mark d _ there s;
      holds = lift_holds laid.inside q.caps q.mark d _ there s
          (subst
          (λ (x : ℕ). Keeps P (marking P (stack q.mark x)) l.self)
          e
          (l.invariant.1 q.caps q.mark q.standing q.holds));
    }

pub loop-at-preserved : goal.loop-at-preserved
loop-at-preserved c =
    let l = c.loop-at in
    let t = c.args.tables.now in
    let P = pattern_in t.crossed.matrix in
    let laid = t.made.tabled.laid in
    let d = l.at - 1 in
    let e : l.at ≡ d + 1 = omega arith in (
      λ b. omega arith,
      λ caps mark standing h.
          let s = standing-first mark (d + 1) c.args.from (omega arith) standing in
          let there = c.from.ensures ∙ t.made.tabled.ordered.line_is d (standing-room P caps mark d c.args.from (omega arith) standing) in
          c.pop.ensures
          (marking P (stack mark d))
          (mark d)
          (place-next laid.inside caps mark d _ there s)
          (lift_holds laid.inside caps mark d _ there s
          (subst
          (λ (x : ℕ). Keeps P (marking P (stack mark x)) l.self)
          e
          (l.invariant.1 caps mark standing h))),
    )

pub returns : goal.returns
returns c =
    λ caps mark standing fewer h.
    let P = pattern_in c.args.tables.now.crossed.matrix in
    let l = c.loop-at in
    let e : l.at ≡ c.args.to = omega (arith, l.invariant.0 fewer) in
    subst
    (λ (x : ℕ). Keeps P (marking P (stack mark x)) l.self)
    e
    (l.invariant.1 caps mark standing h)
