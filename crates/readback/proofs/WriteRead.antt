-- What the writer leaves in its output, as far as it answers, reads back as the split that it was given.
-- Assumes nothing.
use Rattle.std.specs.Prelude.{Ok, Err}
use mathlib.Core.List.{List}
use mathlib.Core.Path.{◌≡◌, refl, sym, ◌∙◌, ap}
use Prim.Native.Nat.{ℕ, ◌+◌, ◌*◌, ◌≤◌}
use native.Mathlib.Omega.{arith}
use lib.ListN.{length, take, drop}
use lib.Seq.{sets, sets-eq, take-append_seam}
use borrow.Author.Tests.{ltb-false}
use Rattle.counting.proofs.Joined.{pick-false, never}
use Rattle.model.specs.Refusal.{Verdict, accepted, ◌then◌}
use Rattle.model.specs.Pattern.{entry_bytes}
use Rattle.model.proofs.Theorems.Checks.{refuse-not, answered_by}
use Rattle.writing.specs.declared.Figures.{Figures}
use Rattle.writing.specs.Written.{text_of}
use Rattle.writing.specs.Writing.{write_verdict, length_answer, text_out, out_written, write_call, write_out}
use Rattle.readback.specs.Reads.{Bytes, ReadsAs}
use Rattle.readback.proofs.ReadsBack.{reads_back}

-- the verdict of a writing that answers a length, and what it leaves
record Wrote (v : Verdict) (text out : List ℕ) (len : ℕ) : Type 0 where
  accepted : v ≡ accepted
  left : take len (out_written v text out) ≡ text

-- a text put at the start of an output with room for it
put_first : (text out : List ℕ) → length text ≤ length out → take (length text) (sets out 0 text) ≡ text
put_first text out l = rw (sets-eq text out 0 (omega arith)) (take-append_seam text (drop (0 + length text) out))

wrote : (v : Verdict) (text out : List ℕ) (len : ℕ) → v then length_answer text out ≡ Ok len → Wrote v text out len
unfolding out_written length_answer text_out
wrote (Err refusal) text out len e = never (cc)
wrote (Ok _) text out len e =
    let same = answered_by _ _ e in
    let room = refuse-not _ _ _ same.0 in
    record {
      accepted = refl;
      left =
          ap (take len) (pick-false out (sets out 0 text) room)
          ∙ ap (λ k. take k (sets out 0 text)) (sym same.1)
          ∙ put_first text out (ltb-false (length out) (length text) room);
    }

pub write_reads_back :
    (m n nonzeros : ℕ) (list parts : List ℕ) (f : Figures) (out : List ℕ) (len : ℕ) (list-slice parts-slice : List ℕ) →
    Bytes list (entry_bytes * nonzeros) → write_call m n nonzeros list parts f out ≡ Ok len →
    entry_bytes * nonzeros ≤ length list-slice → nonzeros ≤ length parts-slice →
    ReadsAs (take len (write_out m n nonzeros list parts f out)) m n nonzeros list parts list-slice parts-slice
unfolding write_call write_out
write_reads_back m n nonzeros list parts f out len list-slice parts-slice bytes e list-room parts-room =
    let w = wrote (write_verdict m n nonzeros list parts) (text_of m n nonzeros list parts f) out len e in
    rw w.left (reads_back m n nonzeros list parts f list-slice parts-slice bytes w.accepted list-room parts-room)
