-- `running::tables::Crossed::over` meets its contract.
-- Assumes nothing.
use Rattle.running.proofs.tables.Crossed.over.Goals as goal

pub invariant_of-result : goal.invariant_of-result
invariant_of-result c = record { made = c.requires }
