-- A written split reads back as the same split.
-- Assumes nothing.
use mathlib.Core.Bool.{true, false}
use mathlib.Core.List.{List}
use mathlib.Core.Path.{◌≡◌, refl, sym, ◌∙◌, ap}
use Prim.Native.Nat.{ℕ, ◌+◌, ◌*◌, ◌^◌, ◌≤◌, ◌<◌}
use native.Mathlib.Omega.{arith}
use lib.ListN.{length}
use borrow.Author.Tests.{le-ltb}
use Rattle.counting.specs.Sums.{count}
use Rattle.counting.proofs.Joined.{or_fails, and_fails_right, pick-false}
use Rattle.model.specs.Refusal.{accepted}
use Rattle.model.specs.declared.Word.TheVariants.{Banner, SizeLine, TooBig, ShortBuffer}
use Rattle.model.specs.Limits.{line_limit}
use Rattle.model.specs.Pattern.{entry_bytes}
use Rattle.model.proofs.Theorems.Checks.{refuse_no, then_accepted}
use Rattle.scanning.specs.Checks.{moved}
use Rattle.texts.specs.declared.Header.{Header}
use Rattle.texts.specs.Reading.{read_as}
use Rattle.texts.specs.Header.{text_limit, header_of, short, size_line_verdict, room_verdict, square_verdict, head_verdict}
use Rattle.texts.specs.Entries.{no_cells, is_given, Entries, entries_from}
use Rattle.texts.specs.Reading.{listed, parted, entries_below, nonzeros_in, below_verdict, read_call, read_list, read_parts}
use Rattle.texts.proofs.Answers.{parts-integer, opened_general, cells_are, nonzeros_are, below_is, answer-read, list_read, parts_read, read_answer-is, read_list-is, read_parts-is}
use Rattle.writing.specs.declared.Figures.{Figures}
use Rattle.writing.specs.Written.{sizes_text, entries_text, text_of}
use Rattle.writing.specs.Writing.{write_verdict}
use Rattle.writing.proofs.Held.{Holds, holds_right}
use Rattle.writing.proofs.Back.{line_over, sizes_length}
use Rattle.writing.proofs.Head.{size_at, laid_out, text-laid, text-length, after_comment, header_back}
use Rattle.readback.specs.Reads.{Bytes, Filled, ReadsAs}
use Rattle.readback.proofs.Table.{table_of}
use Rattle.readback.proofs.Given.{listed-length, listed-rest, listed-bytes, parted-length, parted-rest, gives_listed, gives_parted, same_list, same_parts}
use Rattle.readback.proofs.Accepted.{cell_in, Fine, fine_split}
use Rattle.readback.proofs.Short.{text_fits}
use Rattle.readback.proofs.Entries.{mark_in, head_of, entries-back}
use Rattle.readback.proofs.Nonzeros.{all_given, gives_list, gives_parts}

module _
    {m n nonzeros : ℕ} {list parts : List ℕ} (split : Fine m n nonzeros list parts) (bytes : Bytes list (entry_bytes * nonzeros)) (f : Figures)
    (list-slice parts-slice : List ℕ)
    (list-room : entry_bytes * nonzeros ≤ length list-slice) (parts-room : nonzeros ≤ length parts-slice) where
  abbrev text : List ℕ
  text = laid_out f m n nonzeros (entries_text list parts nonzeros)

  -- where the entries start
  abbrev start : ℕ
  start = line_over (size_at f) m n nonzeros + 1

  abbrev h : Header
  h = head_of m n nonzeros (size_at f) start

  abbrev table : List ℕ
  table = table_of (cell_in list) (mark_in parts) nonzeros

  m_small : m < 10 ^ 9
  m_small = omega (arith, split.rows)

  n_small : n < 10 ^ 9
  n_small = omega (arith, split.columns)

  nonzeros_small : nonzeros < 10 ^ 9
  nonzeros_small = omega (arith, split.few)

  header : h ≡ header_of text
  header = sym (header_back f m n nonzeros (entries_text list parts nonzeros) m_small n_small nonzeros_small)

  room : short h nonzeros (length list-slice) (length parts-slice) ≡ false
  unfolding short
  room = or_fails (le-ltb (length list-slice) (entry_bytes * nonzeros) list-room) (and_fails_right true (le-ltb (length parts-slice) nonzeros parts-room))

  sizes_moved : size_line_verdict h nonzeros ≡ accepted
  unfolding size_line_verdict
  sizes_moved = ap (λ v. moved v (size_at f)) split.sizes

  room_fine : room_verdict h nonzeros (length list-slice) (length parts-slice) ≡ accepted
  unfolding room_verdict
  room_fine = then_accepted _ sizes_moved ∙ refuse_no ShortBuffer 0 room

  head_fine : head_verdict h (length text) (length list-slice) (length parts-slice) ≡ accepted
  unfolding head_verdict
  head_fine =
      let limit : length text ≤ text_limit = omega (arith, text_fits split f, ap length (text-laid m n nonzeros list parts f)) in
      then_accepted
      _
      (then_accepted
      _
      (then_accepted _ (refuse_no TooBig 0 (le-ltb text_limit (length text) limit)) ∙ refuse_no Banner 0 refl)
      ∙ refuse_no SizeLine (size_at f) refl)
      ∙ pick-false (square_verdict h) (room_verdict h nonzeros (length list-slice) (length parts-slice)) refl
      ∙ room_fine

  held_entries : Holds text start (entries_text list parts nonzeros)
  held_entries =
      rw (sizes_length (size_at f) m n nonzeros) at
      (holds_right (sizes_text m n nonzeros) (entries_text list parts nonzeros) (after_comment f m n nonzeros (entries_text list parts nonzeros) m_small n_small nonzeros_small))

  all_read : entries_from text h (length text) start 0 no_cells ≡ (record { verdict = accepted; cells = table })
  all_read =
      entries-back
      text
      split
      (size_at f)
      start
      held_entries
      (text-length f m n nonzeros (entries_text list parts nonzeros) m_small n_small nonzeros_small)

  verdict_read : accepted ≡ (entries_from text h (length text) start 0 no_cells).verdict
  verdict_read = sym (ap (λ (e : Entries). e.verdict) all_read)

  cells_read : table ≡ (entries_from text h (length text) start 0 no_cells).cells
  cells_read = sym (ap (λ (e : Entries). e.cells) all_read)

  below_fine : accepted ≡ below_verdict text h (length list-slice) (length parts-slice)
  below_fine =
      below_is text h no_cells refl accepted accepted accepted table (count (is_given table) (line_limit * m)) (length list-slice) (length parts-slice) verdict_read cells_read refl
      (opened_general h (count (is_given table) (line_limit * m)) (length list-slice) (length parts-slice) refl)
      (sym (then_accepted accepted refl))

  cells_are_table : table ≡ (entries_below text h).cells
  cells_are_table = cells_are text h no_cells refl table cells_read

  answer_back : read_call text list-slice parts-slice ≡ read_as m n nonzeros true
  answer_back =
      sym
      (read_answer-is text list-slice parts-slice h accepted header (sym head_fine) (read_as m n nonzeros true) refl
      (answer-read h accepted (below_verdict text h (length list-slice) (length parts-slice)) below_fine refl nonzeros (nonzeros_in h (entries_below text h).cells) true
      (nonzeros_are text h no_cells refl table nonzeros cells_read (sym (all_given split)))
      refl))

  list-is : read_list text list-slice parts-slice ≡ listed table (line_limit * m) list-slice
  list-is =
      sym
      (read_list-is text list-slice parts-slice h accepted header (sym head_fine) (listed table (line_limit * m) list-slice) refl
      (list_read h accepted (below_verdict text h (length list-slice) (length parts-slice)) below_fine refl table (entries_below text h).cells list-slice (listed table (line_limit * m) list-slice) cells_are_table refl))

  parts_are : read_parts text list-slice parts-slice ≡ parted table (line_limit * m) parts-slice
  parts_are =
      sym
      (read_parts-is text list-slice parts-slice h accepted header (sym head_fine) (parted table (line_limit * m) parts-slice) refl
      (parts_read h accepted (below_verdict text h (length list-slice) (length parts-slice)) below_fine refl table (entries_below text h).cells parts-slice (parted table (line_limit * m) parts-slice) cells_are_table
      (parts-integer h table parts-slice (parted table (line_limit * m) parts-slice) m refl refl refl)))

  list-filled : Filled (listed table (line_limit * m) list-slice) list list-slice (entry_bytes * nonzeros)
  list-filled =
      let all = all_given split in
      record {
        same_length = listed-length table list-slice (line_limit * m);
        first_bytes =
            λ i l. same_list
            table
            (line_limit * m)
            (listed table (line_limit * m) list-slice)
            list
            (gives_listed table list-slice (line_limit * m) (omega arith))
            (gives_list split)
            (listed-bytes table list-slice (line_limit * m) (omega (arith, split.rows)) (omega arith))
            (rw all bytes)
            i
            (omega arith);
        other_bytes = λ i l. listed-rest table list-slice (line_limit * m) i (omega arith);
      }

  parts_filled : Filled (parted table (line_limit * m) parts-slice) parts parts-slice nonzeros
  parts_filled =
      let all = all_given split in
      record {
        same_length = parted-length table parts-slice (line_limit * m);
        first_bytes =
            λ i l. same_parts
            table
            (line_limit * m)
            (parted table (line_limit * m) parts-slice)
            parts
            (gives_parted table parts-slice (line_limit * m) (omega arith))
            (gives_parts split)
            i
            (omega arith);
        other_bytes = λ i l. parted-rest table parts-slice (line_limit * m) i (omega arith);
      }

  laid-back : ReadsAs text m n nonzeros list parts list-slice parts-slice
  laid-back = record { answer = answer_back; list_back = rw list-is list-filled; parts_back = rw parts_are parts_filled }

-- for every split of bytes that the writer accepts, all figures, and slices with room for it
pub reads_back :
    (m n nonzeros : ℕ) (list parts : List ℕ) (f : Figures) (list-slice parts-slice : List ℕ) →
    Bytes list (entry_bytes * nonzeros) → write_verdict m n nonzeros list parts ≡ accepted →
    entry_bytes * nonzeros ≤ length list-slice → nonzeros ≤ length parts-slice →
    ReadsAs (text_of m n nonzeros list parts f) m n nonzeros list parts list-slice parts-slice
reads_back m n nonzeros list parts f list-slice parts-slice bytes accepted list-room parts-room =
    rw
    (text-laid m n nonzeros list parts f)
    (laid-back (fine_split m n nonzeros list parts accepted) bytes f list-slice parts-slice list-room parts-room)
