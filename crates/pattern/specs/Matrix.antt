-- Document 01, 'Pattern, split, cap': the pattern that the code holds with its list.
-- Assumes nothing.
use Rattle.model.specs.Pattern.{Pattern, pattern_of}
use Rattle.pattern.specs.declared.matrix.Matrix.{Matrix}

-- the pattern of the numbers and the list that are held
abbrev pub pattern_in : Matrix → Pattern
pattern_in matrix = pattern_of matrix.m matrix.n matrix.nonzeros matrix.list.now
