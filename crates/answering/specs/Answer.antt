-- Document 01, 'Texts', with the rest and the caps of document 02's requests 4 and 5: what the program prints, step by step.
-- Assumes nothing.
use Rattle.std.specs.Prelude.{Option, Some, None, Result, Ok, Err, List, [], ℕ, ◌*◌, drop, replicate}
use Rattle.model.specs.declared.Word.{Word}
use Rattle.model.specs.declared.Word.TheVariants.{EntryForm}
use Rattle.model.specs.declared.Refusal.{Refusal}
use Rattle.model.specs.declared.Capped.{Capped}
use Rattle.model.specs.declared.Search.{Search}
use Rattle.model.specs.declared.Ended.{Ended}
use Rattle.model.specs.declared.Ran.{Ran}
use Rattle.model.specs.declared.Shown.{Shown}
use Rattle.model.specs.declared.Shown.TheVariants as showing
use Rattle.model.specs.Limits.{nonzero_limit}
use Rattle.model.specs.Pattern.{entry_bytes}
use Rattle.model.specs.Split.{both_caps}
use Rattle.model.specs.Calls.{cap_call, open_call, run_call, show_call, show_parts, complete_number}
use Rattle.texts.specs.declared.TextRead.{TextRead}
use Rattle.texts.specs.Reading.{read_call, read_list}
use Rattle.writing.specs.declared.Figures.{Figures}
use Rattle.writing.specs.Written.{text_of}
use Rattle.writing.specs.Writing.{write_call}
use Rattle.writing.specs.Lines.{refused_text, none_text}
use Rattle.answering.specs.declared.Command.{Command}
use Rattle.answering.specs.FirstLine.{command_of}

-- slices with room for the longest list and its parts
abbrev pub list_room : List ℕ
list_room = replicate (entry_bytes * nonzero_limit) 0

abbrev pub parts_room : List ℕ
parts_room = replicate nonzero_limit 0

-- an answer: a split with its figures, "none yet", or a refusal
pub data Answer : Type 0 where
  gives_split : (m n nonzeros : ℕ) (list parts : List ℕ) (f : Figures) → Answer
  gives_none : (cap0 cap1 rest tries floor : ℕ) → Answer
  gives_refusal : (word : Word) (place : ℕ) → Answer

-- the text written, or the writer's refusal
unfoldable pub after_writing : Result ℕ Refusal → List ℕ → List ℕ
after_writing (Ok len) text = text
after_writing (Err refusal) text = refused_text refusal.word refusal.place

-- an answer as it is printed; the output's length counts for the writer alone
unfoldable pub printed_as : Answer → List ℕ → List ℕ
printed_as (gives_split m n nonzeros list parts f) out =
    after_writing (write_call m n nonzeros list parts f out) (text_of m n nonzeros list parts f)
printed_as (gives_none cap0 cap1 rest tries floor) out = none_text cap0 cap1 rest tries floor
printed_as (gives_refusal word place) out = refused_text word place

-- the line of an answer without a split: "none yet", or a refusal
unfoldable pub line_text : Result Shown Refusal → ℕ → ℕ → ℕ → ℕ → List ℕ
line_text (Ok (showing.Split volume floor)) cap0 cap1 rest tries = []
line_text (Ok (showing.NoneYet floor)) cap0 cap1 rest tries = none_text cap0 cap1 rest tries floor
line_text (Err refusal) cap0 cap1 rest tries = refused_text refusal.word refusal.place

-- the figures of the comment
unfoldable pub figures_of : Search → ℕ → ℕ → ℕ → Figures
figures_of s rest volume floor =
    record {
      volume = volume;
      cap0 = s.cap0;
      cap1 = s.cap1;
      rest = rest;
      tries = s.tries;
      floor = floor;
      complete = complete_number s.complete;
    }

-- what follows the cap, for a pattern and the rest of its cap
module _ (rest m n nonzeros : ℕ) (list : List ℕ) where
  -- after the showing
  unfoldable pub after_showing : Result Shown Refusal → Search → List ℕ → Answer
  after_showing (Ok (showing.Split volume floor)) s parts =
      gives_split m n nonzeros list parts (figures_of s rest volume floor)
  after_showing (Ok (showing.NoneYet floor)) s parts = gives_none s.cap0 s.cap1 rest s.tries floor
  after_showing (Err refusal) s parts = gives_refusal refusal.word refusal.place

  -- a showing of a search
  unfoldable pub search_answer : Search → Answer
  search_answer s =
      after_showing (show_call s m n nonzeros list parts_room) s (show_parts s m n nonzeros list parts_room)

  -- after the run
  unfoldable pub after_run : Result Ended Refusal → Search → Answer
  after_run (Ok _) s = search_answer s
  after_run (Err refusal) s = gives_refusal refusal.word refusal.place

  -- one run
  unfoldable pub ran_answer : Ran → Answer
  ran_answer ran = after_run ran.answer ran.search

  -- after the opening
  unfoldable pub opened_answer : Result Search Refusal → ℕ → Answer
  opened_answer (Ok fresh) budget = ran_answer (run_call fresh m n nonzeros list budget)
  opened_answer (Err refusal) budget = gives_refusal refusal.word refusal.place

-- after the cap from a percentage, which is both caps
unfoldable pub after_cap : Result Capped Refusal → ℕ → ℕ → ℕ → List ℕ → ℕ → Answer
after_cap (Ok capped) m n nonzeros list budget =
    opened_answer capped.rest m n nonzeros list (open_call m n nonzeros list (both_caps capped.cap)) budget
after_cap (Err refusal) m n nonzeros list budget = gives_refusal refusal.word refusal.place

-- after the reading (parts unused)
unfoldable pub after_reading : Result TextRead Refusal → List ℕ → ℕ → ℕ → Answer
after_reading (Ok text) list percent budget =
    after_cap (cap_call text.nonzeros percent) text.m text.n text.nonzeros list budget
after_reading (Err refusal) list percent budget = gives_refusal refusal.word refusal.place

-- a text under a percentage, with a budget
unfoldable pub pattern_answer : List ℕ → ℕ → ℕ → Answer
pattern_answer text percent budget =
    after_reading (read_call text list_room parts_room) (read_list text list_room parts_room) percent budget

-- after the first line, where it is as it must be
unfoldable pub after_line : Option Command → List ℕ → Answer
after_line (Some command) input = pattern_answer (drop command.next input) command.percent command.budget
after_line None input = gives_refusal EntryForm 0

-- the whole input: another form of the first line is refusal 3 at 0, before all else; then the text
unfoldable pub answer_to : List ℕ → Answer
answer_to input = after_line (command_of input) input

-- what is printed
unfoldable pub answer_text : List ℕ → List ℕ → List ℕ
answer_text input out = printed_as (answer_to input) out
