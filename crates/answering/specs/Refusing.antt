-- Document 01, 'Texts', with the caps of document 02's request 2: what the program refuses.
-- Assumes nothing.
use Rattle.std.specs.Prelude.{false, Option, Some, None, unwrap_or, Ok, Err, List, ◌≡◌, ℕ, ltb, length, drop}
use Rattle.counting.specs.Tests.{pick}
use Rattle.model.specs.declared.Word.TheVariants.{EntryForm, Cap, Budget}
use Rattle.model.specs.Limits.{percent_limit, budget_limit}
use Rattle.model.specs.Refusal.{Verdict, refused, refuse, ◌then◌}
use Rattle.scanning.specs.Words.{same_word, number_at}
use Rattle.texts.specs.Reading.{read_verdict}
use Rattle.writing.specs.declared.Figures.{Figures}
use Rattle.writing.specs.Written.{text_of}
use Rattle.writing.specs.Lines.{#refused, refused_text, none_text}
use Rattle.answering.specs.declared.Command.{Command}
use Rattle.answering.specs.FirstLine.{command_of}
use Rattle.answering.specs.Answer.{list_room, parts_room}

-- the checks of a text under a percentage, with a budget: those of the text, 11 for E, 13 for B
unfoldable pub pattern_verdict : List ℕ → ℕ → ℕ → Verdict
pattern_verdict text percent budget =
    read_verdict text list_room parts_room
    then (refuse (ltb percent_limit percent) Cap 0
    then refuse (ltb budget_limit budget) Budget 0)

-- the checks after the first line, and 3 where it is not as it must be
unfoldable pub line_verdict : Option Command → List ℕ → Verdict
line_verdict (Some command) input = pattern_verdict (drop command.next input) command.percent command.budget
line_verdict None input = refused EntryForm 0

-- the program's checks: 3 for its first line, then these
unfoldable pub split_verdict : List ℕ → Verdict
split_verdict input = line_verdict (command_of input) input

-- what a printed answer refuses: R of "refused R at P", and 0 for an answer that does not begin so, a split or "none yet"
unfoldable pub refusal_in : List ℕ → ℕ
refusal_in answer = pick (same_word answer 0 8 false #refused) (unwrap_or (number_at answer 8 (length answer)).value 0) 0

-- an answer that refuses nothing: a split, or "none yet"
pub data NoRefusal (answer : List ℕ) : Type 0 where
  split : (m n nonzeros : ℕ) (list parts : List ℕ) (f : Figures) → answer ≡ text_of m n nonzeros list parts f → NoRefusal answer
  none_yet : (cap0 cap1 rest tries floor : ℕ) → answer ≡ none_text cap0 cap1 rest tries floor → NoRefusal answer

-- an answer that tells a verdict: the line of the refusal, or no refusal
abbrev pub Tells : Verdict → List ℕ → Type 0
Tells (Ok _) answer = NoRefusal answer
Tells (Err refusal) answer = answer ≡ refused_text refusal.word refusal.place
