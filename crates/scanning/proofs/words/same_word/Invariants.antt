-- `scanning::same_word` meets its contract. The loop's invariant: the bytes passed are the word's.
-- Assumes nothing.
use Rattle.std.proofs.Common.{◌≡◌, ◌-◌, length}
use Rattle.scanning.specs.Lines.{past}
use Rattle.scanning.specs.Words.{spells}
use Rattle.scanning.proofs.words.same_word.Given as goal

abbrev pub invariant-loop-i : goal.invariant-loop-i
invariant-loop-i l =
    past (spells l.text l.from l.any l.spelling) l.i (length l.spelling - l.i)
    ≡ past (spells l.text l.from l.any l.spelling) 0 (length l.spelling)
