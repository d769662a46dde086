-- Every answer has at most `written_most` bytes, and so fits the program's output.
-- Assumes nothing.
use Rattle.std.specs.Prelude.{Ok, Err}
use mathlib.Core.List.{List, ◌++◌}
use mathlib.Core.Path.{◌≡◌, refl}
use Prim.Native.Nat.{ℕ, ◌≤◌}
use native.Mathlib.Omega.{arith}
use lib.Dec.{ltb}
use lib.ListN.{length, length-append}
use Rattle.counting.proofs.Joined.{by_test}
use Rattle.model.specs.declared.Word.{Word}
use Rattle.model.specs.declared.Word.TheVariants.{ShortBuffer}
use Rattle.model.specs.Refusal.{Verdict, accepted, refusal_number, ◌then◌}
use Rattle.writing.specs.Written.{number_text, figure_text, figures_text, text_of}
use Rattle.writing.specs.Writing.{write_verdict, length_answer, write_call}
use Rattle.writing.specs.Lines.{#refused, #at, #none, refused_text, none_text}
use Rattle.writing.proofs.Puttings.{number_short, figure_short, figures-short}
use Rattle.readback.proofs.Accepted.{fine_split}
use Rattle.readback.proofs.Short.{written_most, text-short}
use Rattle.answering.specs.Answer.{Answer, gives_split, gives_none, gives_refusal, after_writing, printed_as, answer_to, answer_text}

refused_short : (word : Word) (place : ℕ) → length (refused_text word place) ≤ written_most
unfolding refused_text
refused_short word place =
    omega
    (arith, length-append (figure_text #refused (refusal_number word)) (#at ++ number_text place 10), figure_short #refused (refusal_number word), length-append #at (number_text place 10), number_short place 10)

none-short : (cap0 cap1 rest tries floor : ℕ) → length (none_text cap0 cap1 rest tries floor) ≤ written_most
unfolding none_text
none-short cap0 cap1 rest tries floor =
    omega (arith, length-append #none (figures_text cap0 cap1 rest tries floor 10), figures-short cap0 cap1 rest tries floor 10)

module _ (out : List ℕ) where
  after-short :
      (v : Verdict) (text : List ℕ) → (v ≡ accepted → length text ≤ written_most) →
      length (after_writing (v then length_answer text out) text) ≤ written_most
  unfolding length_answer after_writing
  after-short (Ok _) text h =
      by_test
      (ltb (length out) (length text))
      (λ e. rw e (refused_short ShortBuffer 0))
      (λ e. rw e (h refl))
  after-short (Err refusal) text h = refused_short refusal.word refusal.place

  printed-short : (a : Answer) → length (printed_as a out) ≤ written_most
  unfolding printed_as write_call
  printed-short (gives_split m n nonzeros list parts f) =
      after-short
      (write_verdict m n nonzeros list parts)
      (text_of m n nonzeros list parts f)
      (λ e. text-short (fine_split m n nonzeros list parts e) f)
  printed-short (gives_none cap0 cap1 rest tries floor) = none-short cap0 cap1 rest tries floor
  printed-short (gives_refusal word place) = refused_short word place

-- an answer is never longer, whatever the input and the output
pub answer_fits : (input out : List ℕ) → length (answer_text input out) ≤ written_most
unfolding answer_text
answer_fits input out = printed-short out (answer_to input)
