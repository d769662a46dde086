-- `matching::augmenting::no_columns` meets its contract.
-- Assumes nothing.
use borrow.Author.Rules.{rules}
use Rattle.matching.specs.Augmenting.{no_columns}
use Rattle.matching.proofs.augmenting.no_columns.Goals as goal

pub returns : goal.returns
unfolding no_columns
returns c = search rules
