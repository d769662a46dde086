-- `running::kept::Kept::none` meets its contract.
-- Assumes nothing.
use Prim.Native.Nat.{◌≤◌}
use native.Mathlib.Omega.{arith}
use Rattle.model.specs.Limits.{line_room}
use Rattle.model.specs.Pattern.{lines}
use Rattle.pattern.specs.Matrix.{pattern_in}
use Rattle.running.proofs.Empty.{holds-none}
use Rattle.running.proofs.Beginnings.{blank_made, zeros_are, neutral_are}
use Rattle.running.proofs.kept.Kept.none.Goals as goal

pub returns : goal.returns
returns c =
    let t = c.args.crossed.now in
    let tables = t.made in
    let laid = tables.laid in
    let few : lines (pattern_in t.matrix) ≤ line_room = omega (arith, laid.few) in
    holds-none laid.inside few laid.thin
    (blank_made few c.unmarked_lines.ensures (zeros_are 2048) tables.counts_long tables.counts_are neutral_are (zeros_are 2650) (zeros_are 6) (zeros_are 3))
