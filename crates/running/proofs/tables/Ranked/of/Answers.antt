-- `running::tables::Ranked::of` meets its contract.
-- Assumes nothing.
use Rattle.running.proofs.Beginnings.{ranked_made}
use Rattle.running.proofs.tables.Ranked.of.Goals as goal

pub invariant_of-result : goal.invariant_of-result
invariant_of-result c =
    record {
      made = ranked_made
          c.args.matrix.now
          _
          _
          _
          _
          c.lines.result
          c.requires
          c.lines.ensures
          (c.row_starts-rows.ensures c.args.matrix.now.m c.args.matrix.now.n)
          c.line_counts-counts.ensures
          (c.places-places.ensures c.args.matrix.now.nonzeros c.args.matrix.now.list.now)
          c.total_of-full.ensures;
    }
