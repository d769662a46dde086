-- The bytes printed are the answer to the whole input: enough is read, and every answer fits.
-- Assumes nothing.
use mathlib.Core.List.{List}
use mathlib.Core.Path.{◌≡◌, sym, ◌∙◌, ap}
use Prim.Native.Nat.{ℕ, ◌+◌, ◌-◌, ◌≤◌, ◌<◌}
use native.Mathlib.Omega.{arith}
use lib.ListN.{length, take, drop, length-replicate}
use lib.Seq.{sets-eq, take_all, take_at}
use Rattle.writing.specs.Written.{Puts}
use Rattle.writing.proofs.Puttings.{puts_as}
use Rattle.answering.specs.declared.Printed.{Printed}
use Rattle.answering.specs.Answer.{answer_text}
use Rattle.answering.specs.Printing.{input_room, output_room, no_output, Prints}
use Rattle.answering.proofs.Enough.{enough_read}
use Rattle.answering.proofs.Fitting.{answer_fits}

-- the answer to a part from the start, and to the whole where no more was lent
module _ (input out new : List ℕ) (count r : ℕ) where
  pub start_part : Puts out 0 (answer_text (take (count - 0) (drop 0 input)) out) new r → Puts out 0 (answer_text (take count input) out) new r
  start_part p =
      let e : count - 0 ≡ count = omega arith in
      puts_as (ap (λ (k : ℕ). answer_text (take k input) out) e) p

  pub start-whole : length input < count → Puts out 0 (answer_text input out) new r → Puts out 0 (answer_text (take count input) out) new r
  start-whole h p = puts_as (ap (λ (l : List ℕ). answer_text l out) (sym (take_all count input (omega arith)))) p

-- a text put at the start of a page with room for it
start-text : (page text new : List ℕ) (next : ℕ) → length text ≤ length page → Puts page 0 text new next → take next new ≡ text
start-text page text new next h p =
    ap (take next) (p.bytes ∙ sets-eq text page 0 (omega arith))
    ∙ take_at text (drop (0 + length text) page) next (omega (arith, p.after))

no_output-length : length no_output ≡ output_room
unfolding no_output
no_output-length = length-replicate {A = ℕ} output_room 0

-- what is printed, in an input and an output of their sizes
module _ (input out : List ℕ) (count : ℕ) (r : Printed) (size : length input ≡ input_room) (room : length r.bytes ≡ output_room) (start : out ≡ no_output) where
  module _ (p : Puts no_output 0 (answer_text (take count input) no_output) r.bytes r.len) where
    prints_so : Prints input count r
    prints_so =
        let short = answer_fits (take count input) no_output in
        record {
          input_size = size;
          output_size = room;
          fits = omega (arith, p.after);
          puts = p;
          answers =
              λ whole h.
              start-text no_output (answer_text (take count input) no_output) r.bytes r.len (omega (arith, no_output-length)) p
              ∙ ap (λ (l : List ℕ). answer_text l no_output) h
              ∙ enough_read whole no_output;
        }

  pub prints : Puts out 0 (answer_text (take count input) out) r.bytes r.len → Prints input count r
  prints p = prints_so (rw start at p)
