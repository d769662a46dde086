-- Document 02, requests 4 and 5: the caps and rest that the program shows.
-- Assumes nothing.
use Rattle.std.specs.Prelude.{Bool, Option, Some, None, List, ◌≡◌, ℕ, drop}
use Rattle.model.specs.Split.{CutOff}
use Rattle.texts.specs.Reading.{read_as, read_call}
use Rattle.answering.specs.declared.Command.{Command}
use Rattle.answering.specs.Answer.{list_room, parts_room, Answer, gives_split, gives_none, gives_refusal, answer_to}

-- each cap, with the rest, is that of N and E
abbrev pub BothCutOff : ℕ → ℕ → ℕ → ℕ → ℕ → Type 0
BothCutOff nonzeros percent cap0 cap1 rest = CutOff nonzeros percent cap0 rest × CutOff nonzeros percent cap1 rest

-- the caps and rest of an answer are those of N and E; of a split, N is the one in its size line
abbrev pub ShowsCap : ℕ → ℕ → Answer → Type 0
ShowsCap nonzeros percent (gives_split m n size list parts f) =
    (size ≡ nonzeros) × BothCutOff nonzeros percent f.cap0 f.cap1 f.rest
ShowsCap nonzeros percent (gives_none cap0 cap1 rest tries floor) = BothCutOff nonzeros percent cap0 cap1 rest
ShowsCap nonzeros percent (gives_refusal word place) = Unit

-- the answer to an input, by the command of its first line: where the text after it is read, those of its N and of its E; without a command none,
-- whatever N and E
abbrev pub CapShown : List ℕ → Option Command → Type 0
CapShown input (Some command) =
    (m n nonzeros : ℕ) (integer : Bool) → read_call (drop command.next input) list_room parts_room ≡ read_as m n nonzeros integer →
    ShowsCap nonzeros command.percent (answer_to input)
CapShown input None = (nonzeros percent : ℕ) → ShowsCap nonzeros percent (answer_to input)
