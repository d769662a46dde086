-- `running::kept::Kept::push` meets its contract: the line is marked and settled, then its nonzeros are taken by its part, or it is counted as cut.
-- Assumes nothing.
use mathlib.Core.Path.{refl, ap}
use Prim.Native.Nat.{ℕ, ◌+◌, ◌≤◌, ◌<◌}
use native.Mathlib.Omega.{arith}
use lib.ListN.{get_or, set}
use Rattle.model.specs.Pattern.{Pattern}
use Rattle.model.specs.Marking.{Marking}
use Rattle.pattern.specs.Matrix.{pattern_in}
use Rattle.crossing.specs.Crossing.{Laid}
use Rattle.keeping.specs.Kept.{none, Stage, Holds, Placeable}
use Rattle.keeping.proofs.MarkedLoads.{gain_part, gain_cut}
use Rattle.keeping.proofs.Stages.{stage_part, stage_marked, taking_part, taking_cut}
use Rattle.keeping.proofs.StagesSettled.{stage_remarked}
use Rattle.keeping.proofs.Holding.{load_fits, left_open, holds_pushed}
use Rattle.running.proofs.kept.Kept.push.Goals as goal
use Rattle.running.proofs.kept.Kept.push.Goals.{After-settle}

-- the place where the line has its mark and is settled
abbrev LineSettled : Type 0
LineSettled =
    After-settle

-- the arrays at that place
settled : (c : LineSettled) →
    let a = c.args in
    (P : Pattern) (μ : Marking) (q : ℕ) → Laid P a.crossed.now.starts.now a.crossed.now.cross.now → Placeable P μ a.l a.p →
    Holds P μ a.self.now.marks a.self.now.by a.self.now.left a.self.now.kinds a.self.now.tally a.self.now.sums a.self.now.loads →
    Stage P μ q none (set a.self.now.marks a.l a.p) a.self.now.by a.self.now.left c.settle.new.kinds c.settle.new.tally c.settle.new.sums
settled c P μ q laid place holds =
    let a = c.args in
    stage_remarked
    a.l
    a.p
    (omega (arith, laid.few))
    (stage_part q holds.stage)
    record { long = c.settle.ensures.0; kind_is = c.settle.ensures.1 }
    (c.settle.ensures.2 P laid place.line holds.stage.tied)

pub overflow_add-loads : goal.overflow_add-loads
overflow_add-loads c =
    let h = c.requires.holds in
    omega (
      arith,
      ap (λ k. get_or c.args.self.now.loads k 0) c.from-mark.ensures,
      load_fits c.requires.laid h c.args.p c.args.l c.requires.placeable.mark,
      left_open h.stage c.args.l c.requires.placeable.line,
    )

pub count_all-requires : goal.count_all-requires
count_all-requires c =
    let q = c.requires in
    record {
      pattern = q.pattern;
      μ = q.μ;
      laid = q.laid;
      line = q.placeable.line;
      part = c.if-mark-lt2.true;
      free = q.placeable.free;
      stage = settled (goal.at.count_all-requires c).After-settle q.pattern q.μ c.from-mark.result q.laid q.placeable q.holds;
    }

pub overflow_add-loads-else-mark-lt2 : goal.overflow_add-loads-else-mark-lt2
overflow_add-loads-else-mark-lt2 c =
    let h = c.requires.holds in
    omega (arith, load_fits c.requires.laid h 2 c.args.l (omega arith))

pub returns-then-mark-lt2 : goal.returns-then-mark-lt2
returns-then-mark-lt2 c =
    λ μ place holds.
    let P = pattern_in c.args.crossed.now.matrix in
    let laid = c.args.crossed.now.made.laid in
    let part : c.args.p < 2 = omega (arith, c.if-mark-lt2.true, c.from-mark.ensures) in
    holds_pushed
    (omega (arith, laid.few))
    laid.inside
    place
    holds
    c.from-mark.result
    (get_or c.args.self.now.loads c.from-mark.result 0 + get_or c.args.self.now.left c.args.l 0)
    c.from-mark.ensures
    (omega (arith, left_open holds.stage c.args.l place.line, gain_part P μ c.args.l c.args.p part))
    (stage_marked
    laid.inside
    place
    (taking_part P c.args.l c.args.p part)
    c.from-mark.result
    c.from-mark.ensures
    (c.count_all.ensures P μ laid place.line place.free (settled (goal.at.returns-then-mark-lt2 c).After-settle P μ c.from-mark.result laid place holds)))

pub returns-else-mark-lt2 : goal.returns-else-mark-lt2
returns-else-mark-lt2 c =
    λ μ place holds.
    let P = pattern_in c.args.crossed.now.matrix in
    let laid = c.args.crossed.now.made.laid in
    let cut : 2 ≤ c.args.p = omega (arith, c.if-mark-lt2.false, c.from-mark.ensures) in
    holds_pushed
    (omega (arith, laid.few))
    laid.inside
    place
    holds
    2
    (get_or c.args.self.now.loads 2 0 + 1)
    (omega (arith, place.mark))
    (omega (arith, gain_cut P μ c.args.l c.args.p cut))
    (stage_marked
    laid.inside
    place
    (taking_cut P c.args.l c.args.p cut)
    c.args.p
    refl
    (settled (goal.at.returns-else-mark-lt2 c).After-settle P μ c.args.p laid place holds))
