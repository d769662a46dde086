-- What the program answers to a text that is read: 11 for E out of its range, then 13 for B out of its range, else no refusal.
-- Assumes nothing.
use mathlib.Core.List.{List}
use mathlib.Core.Path.{◌≡◌, refl, sym, ◌∙◌, ap, subst}
use Prim.Native.Nat.{ℕ, ◌≤◌, ◌<◌}
use native.Mathlib.Omega.{arith}
use lib.ListN.{length, length-replicate}
use borrow.Author.Tests.{le-ltb}
use Rattle.std.specs.Prelude.{Result, Ok, Err}
use Rattle.model.specs.declared.Refusal.{Refusal}
use Rattle.model.specs.Refusal.{Verdict, accepted}
use Rattle.model.specs.declared.Word.TheVariants.{ShortBuffer, Cap, Budget}
use Rattle.model.specs.declared.Caps.{Caps}
use Rattle.model.specs.declared.Search.{Search}
use Rattle.model.specs.declared.Ended.{Ended}
use Rattle.model.specs.declared.Shown.{Shown}
use Rattle.model.specs.declared.Shown.TheVariants as showing
use Rattle.model.specs.Limits.{nonzero_limit, percent_limit, budget_limit}
use Rattle.model.specs.Split.{both_caps, cap_from_percent, rest_from_percent}
use Rattle.model.specs.Calls.{list_verdict, open_verdict, cap_call}
use Rattle.model.proofs.Theorems.Accepted.{list_accepted}
use Rattle.model.proofs.Theorems.Checks.{refuse_no, then_accepted, refused_not}
use Rattle.model.proofs.Theorems.Capped.{percent_opens, cap_given, cap_refused}
use Rattle.search.proofs.OneRun.{Run, opens_call, run_refused, run_ended, Told, Left, told, shows, parts_fine}
use Rattle.scanning.specs.Words.{is_integer}
use Rattle.texts.specs.Reading.{read_as}
use Rattle.texts.specs.Header.{header_of}
use Rattle.texts.specs.Reading.{nonzeros_in, answer_read, read_verdict, cells_of, read_call, read_list}
use Rattle.writing.specs.declared.Figures.{Figures}
use Rattle.writing.specs.Written.{text_of}
use Rattle.writing.specs.Writing.{length_answer, write_call}
use Rattle.readback.proofs.Accepted.{fine_split}
use Rattle.readback.proofs.Short.{text-short}
use Rattle.readback.proofs.AnyText.{read_list_fine, read_writes}
use Rattle.answering.specs.Answer.{list_room, parts_room, gives_refusal, after_writing, printed_as, figures_of, after_showing, search_answer, after_run, ran_answer, after_cap, pattern_answer}
use Rattle.answering.specs.Printing.{output_room}
use Rattle.answering.specs.Refusing.{NoRefusal, split, none_yet}
use Rattle.answering.proofs.Steps.{opened_run, capped-opened, capped_refused, text_read}

-- a text that is read, after a first line that is right
module _ (text : List ℕ) (percent budget : ℕ) (passes : read_verdict text list_room parts_room ≡ accepted) where
  abbrev m : ℕ
  m = (header_of text).m

  abbrev n : ℕ
  n = (header_of text).n

  abbrev nonzeros : ℕ
  nonzeros = nonzeros_in (header_of text) (cells_of text)

  abbrev list : List ℕ
  list = read_list text list_room parts_room

  read_is : read_call text list_room parts_room ≡ read_as m n nonzeros (is_integer (header_of text).field)
  unfolding read_call answer_read
  read_is = ap (λ (v : Verdict). answer_read v (header_of text) nonzeros) passes

  listed : list_verdict m n nonzeros list ≡ accepted
  listed = read_list_fine text list_room parts_room m n nonzeros _ read_is

  few : nonzeros ≤ nonzero_limit
  few = (list_accepted m n nonzeros list listed).size_to

  after_cap_lem : pattern_answer text percent budget ≡ after_cap (cap_call nonzeros percent) m n nonzeros list budget
  after_cap_lem = text_read text percent budget m n nonzeros _ read_is

  -- E out of its range is refused 11
  pub percent_refused : percent_limit < percent → pattern_answer text percent budget ≡ gives_refusal Cap 0
  percent_refused high = after_cap_lem ∙ capped_refused m n nonzeros list budget (cap_refused nonzeros percent few high)

  -- with E in its range the search opens
  module _ (low : percent ≤ percent_limit) where
    abbrev caps : Caps
    caps = both_caps (cap_from_percent nonzeros percent)

    abbrev rest : ℕ
    rest = rest_from_percent nonzeros percent

    opens : open_verdict m n nonzeros list caps ≡ accepted
    opens = percent_opens m n nonzeros list percent few low ∙ listed

    abbrev After : Search
    After = (Run m n nonzeros list caps budget opens).search

    after_run_lem : pattern_answer text percent budget ≡ after_run rest m n nonzeros list (Run m n nonzeros list caps budget opens).answer After
    unfolding ran_answer
    after_run_lem =
        after_cap_lem
        ∙ capped-opened m n nonzeros list budget (cap_given nonzeros percent few low)
        ∙ opened_run rest m n nonzeros list budget (opens_call m n nonzeros list caps budget opens)

    -- B out of its range is refused 13
    pub budget_refused : budget_limit < budget → pattern_answer text percent budget ≡ gives_refusal Budget 0
    unfolding after_run
    budget_refused over = after_run_lem ∙ ap (λ (a : Result Ended Refusal). after_run rest m n nonzeros list a After) (run_refused m n nonzeros list caps budget opens over)

    -- with B in its range nothing is refused
    module _ (within : budget ≤ budget_limit) (out : List ℕ) (room : output_room ≤ length out) where
      abbrev Showing : Result Shown Refusal
      Showing = Told m n nonzeros list caps budget opens within parts_room

      abbrev Parts : List ℕ
      Parts = Left m n nonzeros list caps budget opens within parts_room

      parts-room : nonzeros ≤ length parts_room
      parts-room = omega (arith, few, length-replicate {A = ℕ} nonzero_limit 0)

      -- the split is written
      split-written : (volume floor : ℕ) → Showing ≡ Ok (showing.Split volume floor) → (f : Figures) → write_call m n nonzeros list Parts f out ≡ Ok (length (text_of m n nonzeros list Parts f))
      unfolding write_call length_answer
      split-written volume floor e f =
          let fine = read_writes text list_room parts_room m n nonzeros _ read_is Parts (parts_fine m n nonzeros list caps budget opens within parts_room parts-room volume floor e) in
          let written = text_of m n nonzeros list Parts f in
          then_accepted (length_answer written out) fine
          ∙ then_accepted
          (Ok (length written))
          (refuse_no ShortBuffer 0 (le-ltb (length out) (length written) (omega (arith, room, text-short (fine_split m n nonzeros list Parts fine) f))))

      shown_tells : (a : Result Shown Refusal) → Showing ≡ a → NoRefusal (printed_as (after_showing rest m n nonzeros list a After Parts) out)
      unfolding after_showing printed_as after_writing
      shown_tells (Ok (showing.Split volume floor)) e =
          let f = figures_of After rest volume floor in
          split m n nonzeros list Parts f
          (ap (λ (w : Result ℕ Refusal). after_writing w (text_of m n nonzeros list Parts f)) (split-written volume floor e f))
      shown_tells (Ok (showing.NoneYet floor)) e = none_yet After.cap0 After.cap1 rest After.tries floor refl
      shown_tells (Err refusal) e =
          refused_not (sym (((told m n nonzeros list caps budget opens within parts_room).refused refusal.word refusal.place).0 e) ∙ shows m n nonzeros list caps budget opens within parts_room parts-room)

      pub text_answered : NoRefusal (printed_as (pattern_answer text percent budget) out)
      unfolding after_run search_answer
      text_answered =
          subst
          (λ a. NoRefusal (printed_as a out))
          (sym (after_run_lem ∙ ap (λ (a : Result Ended Refusal). after_run rest m n nonzeros list a After) (run_ended m n nonzeros list caps budget opens within)))
          (shown_tells Showing refl)
