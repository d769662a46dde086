-- `matching::starts::no_starts` meets its contract.
-- Assumes nothing.
use borrow.Author.Rules.{rules}
use Rattle.matching.specs.Starts.{no_starts}
use Rattle.matching.proofs.starts.no_starts.Goals as goal

pub returns : goal.returns
unfolding no_starts
returns c = search rules
