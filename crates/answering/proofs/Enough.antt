-- The first bytes of an input are enough: a first line and a text, each at its limit, and one byte more.
-- Assumes nothing.
use mathlib.Core.Bool.{Bool, false}
use Rattle.std.specs.Prelude.{Option, Some, None}
use mathlib.Core.List.{List}
use mathlib.Core.Path.{◌≡◌, refl, sym, ◌∙◌, ap}
use Prim.Native.Nat.{ℕ, zero, suc, ◌+◌, ◌-◌, ◌*◌, ◌≤◌, ◌<◌}
use native.Mathlib.Omega.{arith}
use lib.Dec.{eqb, ltb, leb}
use lib.ListN.{length, get_or, take, drop, length-drop}
use lib.Seq.{take_all, length-take-le, get_or-take}
use borrow.Author.Tests.{lt-ltb, ltb-true, ltb-false}
use Rattle.counting.specs.Tests.{◌and◌, pick}
use Rattle.counting.proofs.Joined.{by_test}
use Rattle.model.specs.declared.Word.TheVariants.{TooBig}
use Rattle.model.specs.Refusal.{refused}
use Rattle.model.proofs.Theorems.Checks.{refuse_so}
use Rattle.scanning.specs.declared.Stretch.{Stretch}
use Rattle.scanning.specs.declared.Stretch.TheVariants.{Digits}
use Rattle.scanning.specs.Classes.{class_of, stretches_over, cased, digit_of}
use Rattle.scanning.specs.Lines.{past, stretches_at, stretch_end}
use Rattle.scanning.specs.Words.{spells, same_word, is_number, value_of, number_between}
use Rattle.texts.specs.Header.{text_limit, head_verdict}
use Rattle.texts.specs.Reading.{answer_read, text_verdict, read_verdict, read_call}
use Rattle.answering.specs.declared.Command.{Command}
use Rattle.answering.specs.FirstLine.{#percent, #budget, command_of}
use Rattle.answering.specs.Answer.{list_room, parts_room, Answer, printed_as, after_line, answer_to, answer_text}
use Rattle.answering.specs.Printing.{first_line_limit, input_room}
use Rattle.scanning.proofs.Scans.{stretch_after}
use Rattle.answering.proofs.FirstLine.{stretch_within, command-short}
use Rattle.answering.proofs.Steps.{text_refused}

-- two inputs have the same bytes where a first line can stand
abbrev Alike : List ℕ → List ℕ → Type 0
Alike a b = (i : ℕ) → i < first_line_limit → get_or a i 0 ≡ get_or b i 0

past_same : (p q : ℕ → Bool) (at k : ℕ) → ((i : ℕ) → i < at + k → p i ≡ q i) → past p at k ≡ past q at k
unfolding past
past_same p q at zero h = refl
past_same p q at (suc k) h =
    ap (λ (b : Bool). pick b (past p (at + 1) k) at) (h at (omega arith))
    ∙ ap (λ (x : ℕ). pick (q at) x at) (past_same p q (at + 1) k (λ i l. h i (omega arith)))

module _ (a b : List ℕ) (same : Alike a b) where
  stretch_same : (stretch : Stretch) (at stop : ℕ) → at ≤ first_line_limit → stop ≤ first_line_limit → stretch_end stretch a at stop ≡ stretch_end stretch b at stop
  unfolding stretch_end stretches_at
  stretch_same stretch at stop h g =
      past_same
      (λ i. stretches_over stretch (class_of (get_or a i 0)))
      (λ i. stretches_over stretch (class_of (get_or b i 0)))
      at
      (stop - at)
      (λ i l. ap (λ (x : ℕ). stretches_over stretch (class_of x)) (same i (omega arith)))

  word_same :
      (from stop : ℕ) (word : List ℕ) → from + length word ≤ first_line_limit → same_word a from stop false word ≡ same_word b from stop false word
  unfolding same_word spells
  word_same from stop word h =
      ap
      (λ (x : ℕ). eqb (stop - from) (length word) and eqb x (length word))
      (past_same
      (λ i. eqb (cased false (get_or a (from + i) 0)) (get_or word i 0))
      (λ i. eqb (cased false (get_or b (from + i) 0)) (get_or word i 0))
      0
      (length word)
      (λ i l. ap (λ (x : ℕ). eqb (cased false x) (get_or word i 0)) (same (from + i) (omega arith))))

  number_same : (from stop : ℕ) → from ≤ first_line_limit → stop ≤ first_line_limit → is_number a from stop ≡ is_number b from stop
  unfolding is_number
  number_same from stop h g =
      ap (λ (x : ℕ). ltb from stop and (leb (stop - from) 9 and eqb x stop)) (stretch_same Digits from stop h g)

  digits_same : (from k : ℕ) → from + k ≤ first_line_limit → value_of a from k ≡ value_of b from k
  unfolding value_of
  digits_same from zero h = refl
  digits_same from (suc k) h =
      ap (λ (x : ℕ). x * 10 + digit_of (get_or a (from + k) 0)) (digits_same from k (omega arith))
      ∙ ap (λ (x : ℕ). value_of b from k * 10 + digit_of x) (same (from + k) (omega arith))

  between_same : (from stop : ℕ) → from ≤ stop → stop ≤ first_line_limit → number_between a from stop ≡ number_between b from stop
  unfolding number_between
  between_same from stop h g =
      ap (λ (t : Bool). pick t (Some (value_of a from (stop - from))) None) (number_same from stop (omega arith) g)
      ∙ ap (λ (x : ℕ). pick (is_number b from stop) (Some x) None) (digits_same from (stop - from) (omega arith))

  -- the first line ends within its limit, and is the same
  command_same : command_of a ≡ command_of b
  unfolding command_of
  command_same =
      let stop = stretch_end Digits b 8 18 in
      let end = stretch_end Digits b (stop + 8) (stop + 8 + 10) in
      let short : stop ≤ 18 = stretch_within Digits b 8 18 (omega arith) in
      let last : end ≤ stop + 8 + 10 = stretch_within Digits b (stop + 8) (stop + 8 + 10) (omega arith) in
      let starts : 8 ≤ stop = stretch_after Digits b 8 18 in
      let later : stop + 8 ≤ end = stretch_after Digits b (stop + 8) (stop + 8 + 10) in
      rw
      (stretch_same Digits 8 18 (omega arith) (omega arith), stretch_same Digits (stop + 8) (stop + 8 + 10) (omega arith) (omega arith), word_same 0 8 #percent (omega arith), word_same stop (stop + 8) #budget (omega arith), between_same 8 stop starts (omega arith), between_same (stop + 8) end later (omega arith), same end (omega arith))

-- a text over the limit is refused, whatever follows
over_refused : (text : List ℕ) → text_limit < length text → read_call text list_room parts_room ≡ refused TooBig 0
unfolding read_call read_verdict text_verdict head_verdict answer_read
over_refused text h = rw (refuse_so {test = ltb text_limit (length text)} TooBig 0 (lt-ltb text_limit (length text) h))

module _ (input : List ℕ) where
  first_bytes : Alike (take input_room input) input
  first_bytes i l = get_or-take input_room input i 0 (omega arith)

  -- two long inputs with one command
  long_by :
      (o : Option Command) → command_of input ≡ o → input_room < length input → after_line o (take input_room input) ≡ after_line o input
  unfolding after_line
  long_by None e h = refl
  long_by (Some o) e h =
      let first = take input_room input in
      let near = command-short input o e in
      let whole = length-take-le input_room input (omega arith) in
      let short : text_limit < length (drop o.next first) = omega (arith, length-drop o.next first, whole, near) in
      let long : text_limit < length (drop o.next input) = omega (arith, length-drop o.next input, near) in
      text_refused (drop o.next first) o.percent o.budget (over_refused _ short)
      ∙ sym (text_refused (drop o.next input) o.percent o.budget (over_refused _ long))

  long_same : input_room < length input → answer_to (take input_room input) ≡ answer_to input
  unfolding answer_to
  long_same h =
      ap (λ (o : Option Command). after_line o (take input_room input)) (command_same (take input_room input) input first_bytes)
      ∙ long_by (command_of input) refl h

  -- the answer to what is read of an input is the answer to the input
  answer_same : answer_to (take input_room input) ≡ answer_to input
  answer_same =
      by_test
      (ltb input_room (length input))
      (λ e. long_same (ltb-true input_room (length input) e))
      (λ e. ap answer_to (take_all input_room input (ltb-false input_room (length input) e)))

  pub enough_read : (out : List ℕ) → answer_text (take input_room input) out ≡ answer_text input out
  unfolding answer_text
  enough_read out = ap (λ (a : Answer). printed_as a out) answer_same
