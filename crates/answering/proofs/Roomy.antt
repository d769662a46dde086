-- An output of `output_room` bytes has room for every answer: past that its length does not count.
-- Assumes nothing.
use Rattle.std.specs.Prelude.{Result, Ok, Err}
use mathlib.Core.List.{List}
use mathlib.Core.Path.{◌≡◌, refl, sym, ◌∙◌, ap}
use Prim.Native.Nat.{ℕ, ◌≤◌}
use native.Mathlib.Omega.{arith}
use lib.ListN.{length}
use borrow.Author.Tests.{le-ltb}
use Rattle.model.specs.Refusal.{Verdict, accepted, ◌then◌}
use Rattle.model.specs.declared.Refusal.{Refusal}
use Rattle.model.proofs.Theorems.Checks.{then_accepted, refuse_no}
use Rattle.model.specs.declared.Word.TheVariants.{ShortBuffer}
use Rattle.writing.specs.declared.Figures.{Figures}
use Rattle.writing.specs.Written.{text_of}
use Rattle.writing.specs.Writing.{write_verdict, length_answer, write_call}
use Rattle.readback.proofs.Accepted.{fine_split}
use Rattle.readback.proofs.Short.{text-short}
use Rattle.answering.specs.Answer.{Answer, gives_split, gives_none, gives_refusal, after_writing, printed_as, answer_to, answer_text}
use Rattle.answering.specs.Printing.{output_room}

module _ (out other : List ℕ) (room : output_room ≤ length out) (too : output_room ≤ length other) where
  length_same : (text : List ℕ) → length text ≤ output_room → length_answer text out ≡ length_answer text other
  unfolding length_answer
  length_same text h =
      then_accepted (Ok (length text)) (refuse_no ShortBuffer 0 (le-ltb (length out) (length text) (omega arith)))
      ∙ sym (then_accepted (Ok (length text)) (refuse_no ShortBuffer 0 (le-ltb (length other) (length text) (omega arith))))

  after_same : (v : Verdict) (text : List ℕ) → (v ≡ accepted → length text ≤ output_room) → v then length_answer text out ≡ v then length_answer text other
  after_same (Ok _) text h = length_same text (h refl)
  after_same (Err refusal) text h = refl

  write_same : (m n nonzeros : ℕ) (list parts : List ℕ) (f : Figures) → write_call m n nonzeros list parts f out ≡ write_call m n nonzeros list parts f other
  unfolding write_call
  write_same m n nonzeros list parts f =
      after_same
      (write_verdict m n nonzeros list parts)
      (text_of m n nonzeros list parts f)
      (λ e. omega (arith, text-short (fine_split m n nonzeros list parts e) f))

  printed_same : (a : Answer) → printed_as a out ≡ printed_as a other
  unfolding printed_as
  printed_same (gives_split m n nonzeros list parts f) =
      ap (λ (w : Result ℕ Refusal). after_writing w (text_of m n nonzeros list parts f)) (write_same m n nonzeros list parts f)
  printed_same (gives_none cap0 cap1 rest tries floor) = refl
  printed_same (gives_refusal word place) = refl

  -- the answer is the same in any two outputs with room enough
  pub any-room : (input : List ℕ) → answer_text input out ≡ answer_text input other
  unfolding answer_text
  any-room input = printed_same (answer_to input)
