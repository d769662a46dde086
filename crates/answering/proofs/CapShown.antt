-- The caps and rest that the program shows, with a split or "none yet", are those of its text's N and of E.
-- Assumes nothing.
use mathlib.Core.Bool.{Bool}
use mathlib.Core.List.{List}
use mathlib.Core.Path.{◌≡◌, refl, sym, ◌∙◌, subst}
use Prim.Native.Nat.{ℕ}
use lib.ListN.{drop}
use Rattle.std.specs.Prelude.{Option, Some, None, Result, Ok, Err}
use Rattle.model.specs.declared.Refusal.{Refusal}
use Rattle.model.specs.declared.Caps.{Caps}
use Rattle.model.specs.declared.Capped.{Capped}
use Rattle.model.specs.declared.Search.{Search}
use Rattle.model.specs.declared.Ended.{Ended}
use Rattle.model.specs.declared.Shown.{Shown}
use Rattle.model.specs.declared.Shown.TheVariants as showing
use Rattle.model.specs.Split.{both_caps, CutOff}
use Rattle.model.specs.Calls.{cap_call, open_call, run_call}
use Rattle.model.proofs.Theorems.Checks.{answered_by}
use Rattle.model.proofs.Theorems.Capped.{cap_accepted}
use Rattle.search.proofs.OneRun.{Run, run_caps}
use Rattle.texts.specs.Reading.{read_as}
use Rattle.texts.specs.Reading.{read_call, read_list}
use Rattle.answering.specs.declared.Command.{Command}
use Rattle.answering.specs.FirstLine.{command_of}
use Rattle.answering.specs.Answer.{list_room, parts_room, figures_of, after_showing, search_answer, after_run, ran_answer, opened_answer, after_cap, after_line, answer_to}
use Rattle.answering.specs.CapShown.{BothCutOff, ShowsCap, CapShown}
use Rattle.answering.proofs.Steps.{text_read, line_right}

module _ (m n nonzeros : ℕ) (list : List ℕ) (percent budget : ℕ) where
  -- after a run of a search with this cap for both parts
  module _ (s : Search) (rest : ℕ) (cut : BothCutOff nonzeros percent s.cap0 s.cap1 rest) where
    shown_so : (a : Result Shown Refusal) (parts : List ℕ) → ShowsCap nonzeros percent (after_showing rest m n nonzeros list a s parts)
    unfolding after_showing figures_of
    shown_so (Ok (showing.Split volume floor)) parts = (refl, cut)
    shown_so (Ok (showing.NoneYet floor)) parts = cut
    shown_so (Err refusal) parts = tt

    run_so : (a : Result Ended Refusal) → ShowsCap nonzeros percent (after_run rest m n nonzeros list a s)
    unfolding after_run search_answer
    run_so (Ok _) = shown_so _ _
    run_so (Err refusal) = tt

  -- after an opening with a cap that was answered, and after the cap
  opened_so :
      (a : Result Search Refusal) (cap rest : ℕ) → open_call m n nonzeros list (both_caps cap) ≡ a → CutOff nonzeros percent cap rest →
      ShowsCap nonzeros percent (opened_answer rest m n nonzeros list a budget)
  unfolding open_call opened_answer ran_answer
  opened_so (Err refusal) cap rest e cut = tt
  opened_so (Ok fresh) cap rest e cut =
      let opens = answered_by _ _ e in
      subst
      (λ (s : Search). ShowsCap nonzeros percent (ran_answer rest m n nonzeros list (run_call s m n nonzeros list budget)))
      opens.1
      (run_so
      (Run m n nonzeros list (both_caps cap) budget opens.0).search
      rest
      (subst (λ (c : Caps). BothCutOff nonzeros percent c.cap0 c.cap1 rest) (sym (run_caps m n nonzeros list (both_caps cap) budget opens.0)) (cut, cut))
      _)

  capped_so : (a : Result Capped Refusal) → cap_call nonzeros percent ≡ a → ShowsCap nonzeros percent (after_cap a m n nonzeros list budget)
  unfolding after_cap
  capped_so (Ok capped) e = opened_so _ capped.cap capped.rest refl (cap_accepted nonzeros percent capped.cap capped.rest e).cut
  capped_so (Err refusal) e = tt

-- the answer to an input whose first line is right and whose text is read
cap_shown_by :
    (input : List ℕ) (command : Command) (m n nonzeros : ℕ) (integer : Bool) → command_of input ≡ Some command →
    read_call (drop command.next input) list_room parts_room ≡ read_as m n nonzeros integer →
    ShowsCap nonzeros command.percent (answer_to input)
cap_shown_by input o m n nonzeros integer line e =
    let text = drop o.next input in
    subst
    (ShowsCap nonzeros o.percent)
    (sym (line_right input o line ∙ text_read text o.percent o.budget m n nonzeros integer e))
    (capped_so m n nonzeros (read_list text list_room parts_room) o.percent o.budget (cap_call nonzeros o.percent) refl)

-- the answer to an input whose first line is another is a refusal, which shows no cap
pub no_cap_shown :
    (input : List ℕ) (nonzeros percent : ℕ) → command_of input ≡ None → ShowsCap nonzeros percent (answer_to input)
unfolding answer_to after_line
no_cap_shown input nonzeros percent e =
    subst (λ (o : Option Command). ShowsCap nonzeros percent (after_line o input)) (sym e) tt

-- the answer to any input
pub cap_shown : (input : List ℕ) → CapShown input (command_of input)
cap_shown input = by_line (command_of input) refl
  where
    by_line : (line : Option Command) → command_of input ≡ line → CapShown input line
    by_line (Some command) e = λ m n nonzeros integer reads. cap_shown_by input command m n nonzeros integer e reads
    by_line None e = λ nonzeros percent. no_cap_shown input nonzeros percent e
