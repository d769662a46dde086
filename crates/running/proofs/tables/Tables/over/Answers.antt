-- `running::tables::Tables::over` meets its contract.
-- Assumes nothing.
use Rattle.running.proofs.Beginnings.{tables_ordered}
use Rattle.running.proofs.tables.Tables.over.Goals as goal

pub invariant_of-result : goal.invariant_of-result
invariant_of-result c =
    record { made = tables_ordered c.args.ranked.now.made c.requires.same c.args.crossed.made c.requires.ordered }
