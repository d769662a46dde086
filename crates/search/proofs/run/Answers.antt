-- `search::run` meets its contract.
-- Assumes nothing.
use Rattle.model.proofs.Theorems.Replies.{run_told}
use Rattle.search.proofs.run.Goals as goal

pub returns : goal.returns
returns c = record { answer = (run_told _ _ _ _ _ _ c.run_search.ensures).0; reply = (run_told _ _ _ _ _ _ c.run_search.ensures).1 }
