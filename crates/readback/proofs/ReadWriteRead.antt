-- What is read of any text may be written, and reads back as the same split: the list with any parts that are accepted, and with the parts that are read.
-- Assumes nothing.
use mathlib.Core.Bool.{Bool, true}
use mathlib.Core.List.{List}
use mathlib.Core.Path.{◌≡◌}
use Prim.Native.Nat.{ℕ, ◌*◌, ◌≤◌}
use lib.ListN.{length}
use Rattle.model.specs.Refusal.{accepted}
use Rattle.model.specs.Pattern.{entry_bytes}
use Rattle.pattern.specs.Measures.{parts_verdict}
use Rattle.texts.specs.Reading.{read_as}
use Rattle.texts.specs.Reading.{read_call, read_list, read_parts}
use Rattle.writing.specs.declared.Figures.{Figures}
use Rattle.writing.specs.Written.{text_of}
use Rattle.readback.specs.Reads.{ReadsAs}
use Rattle.readback.proofs.ReadsBack.{reads_back}
use Rattle.readback.proofs.AnyText.{read_bytes, read_parts_fine, read_writes}

module _
    (text list parts : List ℕ) (m n nonzeros : ℕ) (integer : Bool) (e : read_call text list parts ≡ read_as m n nonzeros integer)
    (f : Figures) (list-slice parts-slice : List ℕ) (list-room : entry_bytes * nonzeros ≤ length list-slice) (parts-room : nonzeros ≤ length parts-slice) where
  pub list_reads_back :
      (given : List ℕ) → parts_verdict nonzeros given ≡ accepted →
      ReadsAs (text_of m n nonzeros (read_list text list parts) given f) m n nonzeros (read_list text list parts) given list-slice parts-slice
  list_reads_back given fine =
      reads_back m n nonzeros (read_list text list parts) given f list-slice parts-slice (read_bytes text list parts m n nonzeros integer e) (read_writes text list parts m n nonzeros integer e given fine) list-room parts-room

  pub split_reads_back :
      integer ≡ true →
      ReadsAs (text_of m n nonzeros (read_list text list parts) (read_parts text list parts) f) m n nonzeros (read_list text list parts) (read_parts text list parts) list-slice parts-slice
  split_reads_back i = list_reads_back (read_parts text list parts) (read_parts_fine text list parts m n nonzeros integer e i)
