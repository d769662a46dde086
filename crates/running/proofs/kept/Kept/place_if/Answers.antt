-- `running::kept::Kept::place_if` meets its contract.
-- Assumes nothing.
use native.Mathlib.Omega.{arith}
use Rattle.pattern.specs.Matrix.{pattern_in}
use Rattle.running.proofs.Firsts.{holds-set, holds_unset}
use Rattle.running.proofs.kept.Kept.place_if.Goals as goal

pub push-requires : goal.push-requires
push-requires c =
    let q = c.requires in
    record {
      pattern = pattern_in c.args.crossed.now.matrix;
      μ = q.μ;
      laid = c.args.crossed.now.made.laid;
      placeable = q.settable.placeable (omega arith);
      holds = q.holds;
    }

pub returns-then-p-lt3 : goal.returns-then-p-lt3
returns-then-p-lt3 c = λ μ set h.
    let a = c.args in
    let laid = a.crossed.now.made.laid in
    holds-set laid.inside μ a.l a.p (omega arith) (c.push.ensures μ (set.placeable (omega arith)) h)

pub returns-else-p-lt3 : goal.returns-else-p-lt3
returns-else-p-lt3 c = λ μ set h. holds_unset c.args.crossed.now.made.laid.inside μ c.args.l c.args.p (omega arith) set.free h
