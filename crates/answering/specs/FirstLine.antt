-- Document 01, 'Texts': the line "percent E budget B" (single spaces, LF).
-- Assumes nothing.
use Rattle.std.specs.Prelude.{false, Option, Some, None, List, [], ◌∷◌, ℕ, ◌+◌, eqb, get_or}
use Rattle.counting.specs.Tests.{◌and◌, pick}
use Rattle.scanning.specs.declared.Stretch.TheVariants.{Digits}
use Rattle.scanning.specs.Lines.{stretch_end}
use Rattle.scanning.specs.Words.{same_word, number_between}
use Rattle.answering.specs.declared.Command.{Command}

-- "percent " and " budget "
abbrev pub #percent : List ℕ
#percent = 112 ∷ 101 ∷ 114 ∷ 99 ∷ 101 ∷ 110 ∷ 116 ∷ 32 ∷ []

abbrev pub #budget : List ℕ
#budget = 32 ∷ 98 ∷ 117 ∷ 100 ∷ 103 ∷ 101 ∷ 116 ∷ 32 ∷ []

-- the command of two numbers, where both are there
unfoldable pub command_by : Option ℕ → Option ℕ → ℕ → Option Command
command_by None budget next = None
command_by (Some percent) None next = None
command_by (Some percent) (Some budget) next = Some (record { percent = percent; budget = budget; next = next })

-- percent E budget B LF, with E and B as the numbers of a text; the text starts after the LF
unfoldable pub command_of : List ℕ → Option Command
command_of input =
    let stop = stretch_end Digits input 8 18 in
    let from = stop + 8 in
    let end = stretch_end Digits input from (from + 10) in
    pick
    (same_word input 0 8 false #percent and same_word input stop from false #budget and eqb (get_or input end 0) 10)
    (command_by (number_between input 8 stop) (number_between input from end) (end + 1))
    None
