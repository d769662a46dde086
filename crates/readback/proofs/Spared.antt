-- A reading refuses nothing for a cap.
-- Assumes nothing.
use Rattle.std.specs.Prelude.{Result, Ok, Err}
use mathlib.Core.Bool.{Bool, true, false}
use mathlib.Core.List.{List}
use mathlib.Core.Path.{refl}
use Prim.Native.Nat.{ℕ, zero, suc}
use lib.Dec.{ltb}
use lib.ListN.{length}
use Rattle.counting.specs.Tests.{◌or◌, pick}
use Rattle.model.specs.Refusal.{Verdict}
use Rattle.model.specs.declared.Word.TheVariants.{Banner, SizeLine, EntryForm, TooBig, OffMatrix, Repeated, Count, BadPart, ShortBuffer, NotSquare, AboveDiagonal}
use Rattle.model.proofs.Theorems.Spared.{Spares, accepted_spares, refused_spares, refuse_spares, ◌also◌, pick_spares, for_cap, word_for_cap, sizes_spare}
use Rattle.scanning.specs.Checks.{moved}
use Rattle.scanning.specs.declared.Numbers.{Numbers}
use Rattle.texts.specs.declared.Header.{Header}
use Rattle.texts.specs.Header.{header_of, size_line_verdict, room_verdict, square_verdict, head_verdict}
use Rattle.texts.specs.Entries.{no_cells, Entries, entry_check, line_verdict, end_verdict, after, entries_from}
use Rattle.texts.specs.Reading.{entries_below, opened_verdict, text_verdict, below_verdict, read_verdict}

-- the same words at another place
moved_spares : (v : Verdict) (place : ℕ) → Spares word_for_cap v → Spares word_for_cap (moved v place)
moved_spares (Ok _) place h = accepted_spares
moved_spares (Err refusal) place h = refused_spares refusal.word place (h.spared refusal.word refusal.place refl)

-- before the entries
module _ (h : Header) where
  size_line_spares : (nonzeros : ℕ) → Spares word_for_cap (size_line_verdict h nonzeros)
  unfolding size_line_verdict
  size_line_spares nonzeros = moved_spares _ h.at (sizes_spare h.m h.n nonzeros)

  room_spares : (nonzeros list parts : ℕ) → Spares word_for_cap (room_verdict h nonzeros list parts)
  unfolding room_verdict for_cap ◌or◌
  room_spares nonzeros list parts = size_line_spares nonzeros also refuse_spares _ ShortBuffer _ refl

  square_spares : Spares word_for_cap (square_verdict h)
  unfolding square_verdict for_cap ◌or◌
  square_spares = size_line_spares 0 also refuse_spares _ NotSquare _ refl

  head_spares : (text list parts : ℕ) → Spares word_for_cap (head_verdict h text list parts)
  unfolding head_verdict for_cap ◌or◌
  head_spares text list parts =
      refuse_spares _ TooBig _ refl
      also refuse_spares _ Banner _ refl
      also refuse_spares _ SizeLine _ refl
      also pick_spares h.symmetric _ _ square_spares (room_spares h.entries list parts)

  -- an entry, a line, and the end of the text
  check_spares : (e : Result Numbers Numbers) (place : ℕ) (cells : List ℕ) → Spares word_for_cap (entry_check h e place cells)
  unfolding entry_check for_cap ◌or◌
  check_spares (Err e) place cells = refused_spares EntryForm place refl
  check_spares (Ok e) place cells =
      refuse_spares _ OffMatrix _ refl
      also refuse_spares _ AboveDiagonal _ refl
      also refuse_spares _ BadPart _ refl
      also refuse_spares _ Repeated _ refl

  line_spares : (text : List ℕ) (at count : ℕ) (cells : List ℕ) → Spares word_for_cap (line_verdict text h at count cells)
  unfolding line_verdict for_cap ◌or◌
  line_spares text at count cells =
      pick_spares _ _ _ accepted_spares (refuse_spares _ Count _ refl also check_spares _ at cells)

  end_spares : (len count : ℕ) → Spares word_for_cap (end_verdict len h count)
  unfolding end_verdict for_cap ◌or◌
  end_spares len count = refuse_spares _ Count _ refl

  -- the lines of the text
  after_spares : (v : Verdict) (cells : List ℕ) (rest : Entries) → Spares word_for_cap v → Spares word_for_cap rest.verdict → Spares word_for_cap (after v cells rest).verdict
  unfolding after
  after_spares (Ok _) cells rest first second = second
  after_spares (Err refusal) cells rest first second = first

  either_spares : (b : Bool) (one other : Entries) → Spares word_for_cap one.verdict → Spares word_for_cap other.verdict → Spares word_for_cap (pick b one other).verdict
  unfolding pick
  either_spares true one other first second = first
  either_spares false one other first second = second

  entries_spare : (text : List ℕ) (k at count : ℕ) (cells : List ℕ) → Spares word_for_cap (entries_from text h k at count cells).verdict
  unfolding entries_from
  entries_spare text zero at count cells = end_spares (length text) count
  entries_spare text (suc k) at count cells =
      either_spares
      (ltb at (length text))
      _
      _
      (after_spares _ cells _ (line_spares text at count cells) (entries_spare text k _ _ _))
      (end_spares (length text) count)

  opened_spares : (nonzeros list parts : ℕ) → Spares word_for_cap (opened_verdict h nonzeros list parts)
  unfolding opened_verdict
  opened_spares nonzeros list parts = pick_spares h.symmetric _ _ (room_spares nonzeros list parts) accepted_spares

  below_spares : (text : List ℕ) (list parts : ℕ) → Spares word_for_cap (below_verdict text h list parts)
  unfolding below_verdict entries_below
  below_spares text list parts = entries_spare text (length text) h.next 0 no_cells also opened_spares _ list parts

-- a reading
pub read_spares : (text list parts : List ℕ) → Spares word_for_cap (read_verdict text list parts)
unfolding read_verdict text_verdict
read_spares text list parts =
    head_spares (header_of text) (length text) (length list) (length parts) also below_spares (header_of text) text (length list) (length parts)
