-- What the program refuses: 3 for its first line, what the text is refused for, 11 for E, 13 for B, and nothing else.
-- So it refuses 11 for E alone, and never 12.
-- Assumes nothing.
use Rattle.std.specs.Prelude.{Option, Some, None}
use mathlib.Core.Bool.{true}
use mathlib.Core.List.{List}
use mathlib.Core.Path.{◌≡◌, refl, sym, ◌∙◌, ap}
use Prim.Native.Nat.{ℕ, ◌≤◌, ◌<◌}
use native.Mathlib.Omega.{arith}
use lib.Dec.{ltb}
use lib.ListN.{length, drop}
use borrow.Author.Tests.{ltb-true, ltb-false}
use Rattle.counting.specs.Tests.{◌or◌}
use Rattle.counting.proofs.Joined.{no_way, clash}
use Rattle.model.specs.declared.Word.{Word}
use Rattle.model.specs.declared.Word.TheVariants.{EntryForm, Cap, Budget}
use Rattle.model.specs.Limits.{percent_limit, budget_limit}
use Rattle.model.specs.Refusal.{Verdict, refused, refusal_number}
use Rattle.model.proofs.Theorems.Spared.{refused_spares, refuse_spares, between_spared, for_cap, word_for_cap}
use Rattle.texts.specs.Header.{header_of}
use Rattle.texts.specs.Reading.{nonzeros_in, answer_read, read_verdict, cells_of, read_call}
use Rattle.readback.proofs.Spared.{read_spares}
use Rattle.answering.specs.declared.Command.{Command}
use Rattle.answering.specs.FirstLine.{command_of}
use Rattle.answering.specs.Answer.{list_room, parts_room, printed_as, pattern_answer, after_line, answer_to, answer_text}
use Rattle.answering.specs.Printing.{output_room}
use Rattle.answering.specs.Refusing.{pattern_verdict, line_verdict, split_verdict, refusal_in, Tells}
use Rattle.answering.proofs.Steps.{refusal-printed, text_refused}
use Rattle.answering.proofs.Telling.{tells_then, tells_check, tells_last, tells_number}
use Rattle.answering.proofs.AfterReading.{percent_refused, budget_refused, text_answered}

-- a text that is refused
read_refused :
    (text : List ℕ) (word : Word) (place : ℕ) → read_verdict text list_room parts_room ≡ refused word place →
    read_call text list_room parts_room ≡ refused word place
unfolding read_call answer_read
read_refused text word place e = ap (λ (v : Verdict). answer_read v (header_of text) (nonzeros_in (header_of text) (cells_of text))) e

module _ (out : List ℕ) (room : output_room ≤ length out) where
  -- what follows the first line
  text_tells : (text : List ℕ) (percent budget : ℕ) → Tells (pattern_verdict text percent budget) (printed_as (pattern_answer text percent budget) out)
  unfolding pattern_verdict
  text_tells text percent budget =
      tells_then
      (read_verdict text list_room parts_room)
      _
      (λ word place e. refusal-printed out (text_refused text percent budget (read_refused text word place e)))
      (λ read. tells_check
      (ltb percent_limit percent)
      Cap
      0
      _
      (λ high. refusal-printed out (percent_refused text percent budget read (ltb-true percent_limit percent high)))
      (λ low. tells_last
      (ltb budget_limit budget)
      Budget
      0
      (λ over. refusal-printed out (budget_refused text percent budget read (ltb-false percent_limit percent low) (ltb-true budget_limit budget over)))
      (λ within. text_answered text percent budget read (ltb-false percent_limit percent low) (ltb-false budget_limit budget within) out room)))

  line_tells : (o : Option Command) (input : List ℕ) → Tells (line_verdict o input) (printed_as (after_line o input) out)
  unfolding line_verdict after_line
  line_tells (Some o) input = text_tells (drop o.next input) o.percent o.budget
  line_tells None input = refusal-printed out refl

-- the program refuses what its checks refuse, and nothing else
pub split_refuses : (input out : List ℕ) → output_room ≤ length out → Tells (split_verdict input) (answer_text input out)
unfolding split_verdict answer_text answer_to
split_refuses input out room = line_tells out room (command_of input) input

-- a first line that is right, with E above its range
abbrev pub PercentAbove : Option Command → Type 0
PercentAbove line = (o : Command) × (line ≡ Some o) × (percent_limit < o.percent)

-- of the program's checks only that of E refuses for a cap
cap_alone :
    (line : Option Command) (input : List ℕ) (word : Word) (place : ℕ) → line_verdict line input ≡ refused word place →
    word_for_cap word ≡ true → PercentAbove line × (Cap ≡ word)
unfolding line_verdict pattern_verdict for_cap ◌or◌
cap_alone None input word place e h = clash h ((refused_spares {test = word_for_cap} EntryForm 0 refl).spared word place e)
cap_alone (Some o) input word place e h =
    let r =
    between_spared
    (read_verdict (drop o.next input) list_room parts_room)
    _
    _
    Cap
    0
    word
    place
    (read_spares _ list_room parts_room)
    (refuse_spares _ Budget _ refl)
    e
    h in
    ((o, refl, ltb-true percent_limit o.percent r.0), r.1)

module _ (input out : List ℕ) (room : output_room ≤ length out) where
  refused_cap : (number : ℕ) → refusal_in (answer_text input out) ≡ number → 1 ≤ number → for_cap number ≡ true → PercentAbove (command_of input) × (number ≡ 11)
  unfolding split_verdict
  refused_cap number e some cap =
      let r = tells_number (split_verdict input) (answer_text input out) number (split_refuses input out room) e some in
      let alone = cap_alone (command_of input) input r.0 r.1 r.2 (ap for_cap r.3 ∙ cap) in
      (alone.0, sym r.3 ∙ ap refusal_number (sym alone.1))

  -- 11 for E alone
  pub percent_alone : refusal_in (answer_text input out) ≡ 11 → PercentAbove (command_of input)
  unfolding for_cap ◌or◌
  percent_alone e = (refused_cap 11 e (omega arith) refl).0

  -- never 12
  pub no_split_never : refusal_in (answer_text input out) ≡ 12 → ⊥
  unfolding for_cap ◌or◌
  no_split_never e = no_way (omega (arith, (refused_cap 12 e (omega arith) refl).1))
