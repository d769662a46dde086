-- The steps of the program's answer, by what each call answered.
-- Assumes nothing.
use Rattle.std.specs.Prelude.{Option, Some, None, Result, Ok, Err}
use mathlib.Core.Bool.{Bool}
use mathlib.Core.List.{List}
use mathlib.Core.Path.{◌≡◌, refl, sym, ◌∙◌, ap}
use Prim.Native.Nat.{ℕ}
use lib.ListN.{drop}
use lib.Seq.{sets}
use Rattle.model.specs.declared.Refusal.{Refusal}
use Rattle.model.specs.declared.Word.{Word}
use Rattle.model.specs.declared.Word.TheVariants.{EntryForm}
use Rattle.model.specs.declared.Capped.{Capped}
use Rattle.model.specs.declared.Search.{Search}
use Rattle.model.specs.declared.Ended.{Ended}
use Rattle.model.specs.declared.Ran.{Ran}
use Rattle.model.specs.declared.Shown.{Shown}
use Rattle.model.specs.declared.Shown.TheVariants as showing
use Rattle.model.specs.Split.{both_caps}
use Rattle.model.specs.Calls.{cap_call, open_call, run_call, show_call, show_parts}
use Rattle.texts.specs.declared.TextRead.{TextRead}
use Rattle.texts.specs.Reading.{read_as, read_call, read_list}
use Rattle.writing.specs.declared.Figures.{Figures}
use Rattle.writing.specs.Written.{Puts, text_of}
use Rattle.writing.specs.Writing.{write_call, write_out}
use Rattle.writing.specs.Lines.{refused_text}
use Rattle.writing.proofs.Puttings.{puts_as}
use Rattle.writing.proofs.Answers.{write_puts, write_keeps}
use Rattle.answering.specs.declared.Command.{Command}
use Rattle.answering.specs.FirstLine.{command_of}
use Rattle.answering.specs.Answer.{list_room, parts_room, Answer, gives_split, gives_refusal, after_writing, printed_as, line_text, figures_of, after_showing, search_answer, after_run, ran_answer, opened_answer, after_cap, after_reading, pattern_answer, after_line, answer_to}

-- an answer is printed as one that it equals
pub refusal-printed : {answer : Answer} {word : Word} {place : ℕ} (out : List ℕ) → answer ≡ gives_refusal word place → printed_as answer out ≡ refused_text word place
unfolding printed_as
refusal-printed out e = ap (λ (a : Answer). printed_as a out) e

module _ {answer : Answer} {out new : List ℕ} {r : ℕ} where
  pub prints_answer : {same : Answer} → answer ≡ same → Puts out 0 (printed_as same out) new r → Puts out 0 (printed_as answer out) new r
  prints_answer e p = puts_as (ap (λ (a : Answer). printed_as a out) (sym e)) p

  pub prints_refusal : {word : Word} {place : ℕ} → answer ≡ gives_refusal word place → Puts out 0 (refused_text word place) new r → Puts out 0 (printed_as answer out) new r
  prints_refusal e p = puts_as (sym (refusal-printed out e)) p

-- a split written, or the writer's refusal
module _ (m n nonzeros : ℕ) (list parts : List ℕ) (f : Figures) (out : List ℕ) (w : Result ℕ Refusal)
    (called : w ≡ write_call m n nonzeros list parts f out) where
  abbrev text : List ℕ
  text = text_of m n nonzeros list parts f

  written_as : after_writing w text ≡ printed_as (gives_split m n nonzeros list parts f) out
  unfolding printed_as
  written_as = ap (λ (x : Result ℕ Refusal). after_writing x text) called

  pub split-written :
      (new : List ℕ) (len : ℕ) → new ≡ write_out m n nonzeros list parts f out → w ≡ Ok len →
      Puts out 0 (printed_as (gives_split m n nonzeros list parts f) out) new len
  unfolding after_writing
  split-written new len e h =
      let q = write_puts m n nonzeros list parts f out len (sym called ∙ h) in
      puts_as
      (ap (λ (x : Result ℕ Refusal). after_writing x text) (sym h) ∙ written_as)
      (record { after = q.after; bytes = e ∙ q.bytes })

  pub split_refused :
      (left new : List ℕ) (r : ℕ) (refusal : Refusal) → left ≡ write_out m n nonzeros list parts f out → w ≡ Err refusal →
      Puts left 0 (refused_text refusal.word refusal.place) new r → Puts out 0 (printed_as (gives_split m n nonzeros list parts f) out) new r
  unfolding after_writing
  split_refused left new r refusal e h p =
      let kept = e ∙ write_keeps m n nonzeros list parts f out refusal.word refusal.place (sym called ∙ h) in
      puts_as
      (ap (λ (x : Result ℕ Refusal). after_writing x text) (sym h) ∙ written_as)
      (record { after = p.after; bytes = p.bytes ∙ ap (λ (x : List ℕ). sets x 0 (refused_text refusal.word refusal.place)) kept })

-- a showing: the line, or the split
module _ (s : Search) (rest m n nonzeros : ℕ) (list parts : List ℕ) (a : Result Shown Refusal)
    (called : a ≡ show_call s m n nonzeros list parts_room) (given : parts ≡ show_parts s m n nonzeros list parts_room) where
  search_shown : search_answer rest m n nonzeros list s ≡ after_showing rest m n nonzeros list a s parts
  unfolding search_answer
  search_shown = rw (called, given)

  line_so :
      (out : List ℕ) (x : Result Shown Refusal) → ((v f : ℕ) → x ≡ Ok (showing.Split v f) → ⊥) →
      line_text x s.cap0 s.cap1 rest s.tries ≡ printed_as (after_showing rest m n nonzeros list x s parts) out
  unfolding line_text after_showing printed_as
  line_so out (Ok (showing.Split volume floor)) h = absurd (h volume floor refl)
  line_so out (Ok (showing.NoneYet floor)) h = refl
  line_so out (Err refusal) h = refl

  pub shown_line :
      {out new : List ℕ} {r : ℕ} → ((v f : ℕ) → a ≡ Ok (showing.Split v f) → ⊥) → Puts out 0 (line_text a s.cap0 s.cap1 rest s.tries) new r →
      Puts out 0 (printed_as (search_answer rest m n nonzeros list s) out) new r
  shown_line {out} h p = prints_answer search_shown (puts_as (line_so out a h) p)

  pub shown-split :
      {given : Shown} (volume floor : ℕ) (f : Figures) → a ≡ Ok given → given ≡ showing.Split volume floor → f ≡ figures_of s rest volume floor →
      search_answer rest m n nonzeros list s ≡ gives_split m n nonzeros list parts f
  unfolding after_showing
  shown-split volume floor f h is figures =
      search_shown
      ∙ ap (λ (x : Result Shown Refusal). after_showing rest m n nonzeros list x s parts) h
      ∙ ap (λ (x : Shown). after_showing rest m n nonzeros list (Ok x) s parts) is
      ∙ ap (gives_split m n nonzeros list parts) (sym figures)

-- a run, by what it answered
module _ (rest m n nonzeros : ℕ) (list : List ℕ) {ran call : Ran} (called : ran ≡ call) where
  ran_so : ran_answer rest m n nonzeros list call ≡ after_run rest m n nonzeros list ran.answer ran.search
  unfolding ran_answer
  ran_so = rw called

  pub ran-shown : {ended : Ended} → ran.answer ≡ Ok ended → ran_answer rest m n nonzeros list call ≡ search_answer rest m n nonzeros list ran.search
  unfolding after_run
  ran-shown e = ran_so ∙ ap (λ (a : Result Ended Refusal). after_run rest m n nonzeros list a ran.search) e

  pub ran_refused : {refusal : Refusal} → ran.answer ≡ Err refusal → ran_answer rest m n nonzeros list call ≡ gives_refusal refusal.word refusal.place
  unfolding after_run
  ran_refused e = ran_so ∙ ap (λ (a : Result Ended Refusal). after_run rest m n nonzeros list a ran.search) e

-- an opening, by what it answered
module _ {a : Result Search Refusal} (rest m n nonzeros : ℕ) (list : List ℕ) (budget : ℕ) where
  pub opened_run :
      {fresh : Search} → a ≡ Ok fresh →
      opened_answer rest m n nonzeros list a budget ≡ ran_answer rest m n nonzeros list (run_call fresh m n nonzeros list budget)
  unfolding opened_answer
  opened_run e = ap (λ (x : Result Search Refusal). opened_answer rest m n nonzeros list x budget) e

  pub opened_refused : {refusal : Refusal} → a ≡ Err refusal → opened_answer rest m n nonzeros list a budget ≡ gives_refusal refusal.word refusal.place
  unfolding opened_answer
  opened_refused e = ap (λ (x : Result Search Refusal). opened_answer rest m n nonzeros list x budget) e

-- the cap from a percentage, by what it answered
module _ {a : Result Capped Refusal} (m n nonzeros : ℕ) (list : List ℕ) (budget : ℕ) where
  pub capped-opened :
      {given : Capped} → a ≡ Ok given →
      after_cap a m n nonzeros list budget ≡ opened_answer given.rest m n nonzeros list (open_call m n nonzeros list (both_caps given.cap)) budget
  unfolding after_cap
  capped-opened e = ap (λ (x : Result Capped Refusal). after_cap x m n nonzeros list budget) e

  pub capped_refused : {refusal : Refusal} → a ≡ Err refusal → after_cap a m n nonzeros list budget ≡ gives_refusal refusal.word refusal.place
  unfolding after_cap
  capped_refused e = ap (λ (x : Result Capped Refusal). after_cap x m n nonzeros list budget) e

-- a text, by what its reading answered
module _ (text : List ℕ) (percent budget : ℕ) where
  pub text_given :
      {given : TextRead} → read_call text list_room parts_room ≡ Ok given →
      pattern_answer text percent budget
      ≡ after_cap (cap_call given.nonzeros percent) given.m given.n given.nonzeros (read_list text list_room parts_room) budget
  unfolding pattern_answer after_reading
  text_given e = ap (λ (x : Result TextRead Refusal). after_reading x (read_list text list_room parts_room) percent budget) e

  pub text_read :
      (m n nonzeros : ℕ) (integer : Bool) → read_call text list_room parts_room ≡ read_as m n nonzeros integer →
      pattern_answer text percent budget ≡ after_cap (cap_call nonzeros percent) m n nonzeros (read_list text list_room parts_room) budget
  text_read m n nonzeros integer e = text_given e

  pub text_refused :
      {refusal : Refusal} → read_call text list_room parts_room ≡ Err refusal → pattern_answer text percent budget ≡ gives_refusal refusal.word refusal.place
  unfolding pattern_answer after_reading
  text_refused e = ap (λ (x : Result TextRead Refusal). after_reading x (read_list text list_room parts_room) percent budget) e

-- an input, by its first line
module _ (input : List ℕ) where
  pub line_right : (o : Command) → command_of input ≡ Some o → answer_to input ≡ pattern_answer (drop o.next input) o.percent o.budget
  unfolding answer_to after_line
  line_right o e = ap (λ (line : Option Command). after_line line input) e

  pub line_wrong : command_of input ≡ None → answer_to input ≡ gives_refusal EntryForm 0
  unfolding answer_to after_line
  line_wrong e = ap (λ (line : Option Command). after_line line input) e
