-- Of any text that is read, general or symmetric, the list is inside the matrix and in order, and the parts are 0 or 1: what is read may be written.
-- Assumes nothing.
use mathlib.Core.Bool.{Bool, true, false}
use mathlib.Core.List.{List}
use mathlib.Core.Path.{◌≡◌, refl, sym, ◌∙◌, ap}
use Prim.Native.Nat.{ℕ, ◌+◌, ◌*◌, ◌≤◌}
use native.Mathlib.Omega.{arith}
use lib.Dec.{ltb}
use lib.ListN.{length}
use borrow.Author.Tests.{ltb-false, le-ltb}
use Rattle.counting.specs.Tests.{◌and◌, ◌or◌}
use Rattle.counting.specs.Sums.{count}
use Rattle.counting.proofs.Joined.{by_test, and-other, or_fails, or_fails_left, or_fails_right}
use Rattle.model.specs.Refusal.{Verdict, accepted}
use Rattle.model.specs.declared.Word.TheVariants.{ShortBuffer}
use Rattle.model.specs.Limits.{line_limit}
use Rattle.model.specs.Pattern.{entry_bytes}
use Rattle.model.specs.Calls.{sizes_verdict, list_verdict}
use Rattle.pattern.specs.Measures.{part_verdict, parts_verdict}
use Rattle.model.proofs.Theorems.Checks.{refuse_no, then_accepted, then-first, then-second, refuse-not, answered_by, each_fine, each_accepted}
use Rattle.scanning.specs.Words.{is_integer}
use Rattle.texts.specs.declared.Header.{Header}
use Rattle.texts.specs.declared.TextRead.{TextRead}
use Rattle.texts.specs.Reading.{read_as}
use Rattle.texts.specs.Header.{header_of, short, room_verdict, head_verdict}
use Rattle.texts.specs.Reading.{listed, parted, entries_below, nonzeros_in, answer_read, text_verdict, below_verdict, read_verdict, cells_of, read_call, read_list, read_parts}
use Rattle.texts.proofs.Answers.{room_sizes, room_enough, head_square, head_room, head_lines, opened_symmetric, parts-integer, list_read, parts_read}
use Rattle.writing.specs.Writing.{nonzero_verdict, write_verdict}
use Rattle.readback.specs.Reads.{Bytes}
use Rattle.readback.specs.TextSays.{on_diagonal}
use Rattle.readback.proofs.Given.{GivesList, GivesParts, listed-length, parted-length, gives_listed, listed-bytes, gives_parted}
use Rattle.readback.proofs.Entered.{Entered}
use Rattle.readback.proofs.AllNoted.{AllNoted, all_noted}
use Rattle.readback.proofs.Opened.{general_size, symmetric_size}
use Rattle.readback.proofs.InOrder.{entry_accepted, list_fine, parts_fine}

module _ (text list parts : List ℕ) (passes : read_verdict text list parts ≡ accepted) where
  abbrev h : Header
  h = header_of text

  head_fine : head_verdict h (length text) (length list) (length parts) ≡ accepted
  unfolding read_verdict text_verdict
  head_fine = then-first _ _ passes

  below_fine : below_verdict text h (length list) (length parts) ≡ accepted
  unfolding read_verdict
  below_fine = then-second _ _ passes

  pub lines : (h.m ≤ line_limit) × (h.n ≤ line_limit)
  lines = head_lines h (length text) (length list) (length parts) head_fine

  pub square : h.symmetric ≡ true → h.m ≡ h.n
  square s = (head_square h (length text) (length list) (length parts) head_fine s).1

  -- the table of its entries
  pub all : AllNoted text (cells_of text)
  unfolding below_verdict cells_of entries_below
  all = all_noted text lines.0 lines.1 square (then-first _ _ below_fine)

  -- N
  abbrev pub size : ℕ
  size = nonzeros_in h (cells_of text)

  size_is : size ≡ all.size
  unfolding nonzeros_in
  size_is = all.entered.total

  pub entered : Entered h.m h.n (cells_of text) size
  entered = rw size_is all.entered

  pub general_number : h.symmetric ≡ false → size ≡ h.entries
  general_number s = size_is ∙ general_size all s

  pub symmetric_number : h.symmetric ≡ true → size + count (on_diagonal text) (length text) ≡ 2 * h.entries
  symmetric_number s = ap (λ k. k + count (on_diagonal text) (length text)) size_is ∙ symmetric_size all s

  room_fine : room_verdict h size (length list) (length parts) ≡ accepted
  unfolding below_verdict cells_of
  room_fine =
      by_test
      h.symmetric
      (λ s. opened_symmetric h size (length list) (length parts) _ s refl ∙ then-second _ _ below_fine)
      (λ s. ap (λ k. room_verdict h k (length list) (length parts)) (general_number s)
      ∙ head_room h (length text) (length list) (length parts) head_fine s)

  pub sizes : sizes_verdict h.m h.n size ≡ accepted
  sizes = room_sizes h size (length list) (length parts) room_fine

  rooms : ltb (length list) (entry_bytes * size) or (is_integer h.field and ltb (length parts) size) ≡ false
  unfolding short
  rooms = room_enough h size (length list) (length parts) room_fine

  list-room : entry_bytes * size ≤ length list
  list-room = ltb-false (length list) (entry_bytes * size) (or_fails_left _ (is_integer h.field and ltb (length parts) size) rooms)

  parts-room : is_integer h.field ≡ true → size ≤ length parts
  parts-room i =
      ltb-false
      (length parts)
      size
      (and-other (is_integer h.field) (ltb (length parts) size) (or_fails_right (ltb (length list) (entry_bytes * size)) _ rooms) i)

  pub list-is : listed (cells_of text) (line_limit * h.m) list ≡ read_list text list parts
  unfolding read_list
  list-is = list_read h (read_verdict text list parts) (read_verdict text list parts) refl passes (cells_of text) (cells_of text) list _ refl refl

  pub parts_are : is_integer h.field ≡ true → parted (cells_of text) (line_limit * h.m) parts ≡ read_parts text list parts
  unfolding read_parts
  parts_are i =
      parts_read h (read_verdict text list parts) (read_verdict text list parts) refl passes (cells_of text) (cells_of text) parts _ refl
      (parts-integer h (cells_of text) parts (parted (cells_of text) (line_limit * h.m) parts) h.m i refl refl)

  pub gives_list : GivesList (cells_of text) (line_limit * h.m) (read_list text list parts)
  gives_list = rw list-is at (gives_listed (cells_of text) list (line_limit * h.m) (omega (arith, entered.total, list-room)))

  list-bytes : Bytes (read_list text list parts) (entry_bytes * size)
  list-bytes =
      let All-there = entered.total in
      rw list-is at (rw All-there at (listed-bytes (cells_of text) list (line_limit * h.m) (omega (arith, lines.0)) (omega (arith, list-room))))

  pub gives_parts : is_integer h.field ≡ true → GivesParts (cells_of text) (line_limit * h.m) (read_parts text list parts)
  gives_parts i = rw (parts_are i) at (gives_parted (cells_of text) parts (line_limit * h.m) (omega (arith, entered.total, parts-room i)))

  list_length : entry_bytes * size ≤ length (read_list text list parts)
  list_length = omega (arith, ap length list-is, listed-length (cells_of text) list (line_limit * h.m), list-room)

  parts_length : is_integer h.field ≡ true → size ≤ length (read_parts text list parts)
  parts_length i = omega (arith, ap length (parts_are i), parted-length (cells_of text) parts (line_limit * h.m), parts-room i)

  list_accepted : list_verdict h.m h.n size (read_list text list parts) ≡ accepted
  list_accepted = list_fine entered gives_list sizes list_length

  parts_accepted : is_integer h.field ≡ true → parts_verdict size (read_parts text list parts) ≡ accepted
  parts_accepted i = parts_fine entered (gives_parts i) (parts_length i)

  -- with any parts that are accepted
  split_accepted : (given : List ℕ) → parts_verdict size given ≡ accepted → write_verdict h.m h.n size (read_list text list parts) given ≡ accepted
  unfolding write_verdict nonzero_verdict parts_verdict
  split_accepted given fine =
      then_accepted _ sizes
      ∙ then_accepted
      _
      (refuse_no
      ShortBuffer
      0
      (or_fails
      (le-ltb (length (read_list text list parts)) (entry_bytes * size) list_length)
      (refuse-not (ltb (length given) size) ShortBuffer 0 (then-first _ _ fine))))
      ∙ each_fine
      (nonzero_verdict h.m h.n (read_list text list parts) given)
      size
      (λ t l. then_accepted _ (entry_accepted entered gives_list lines.0 t l) ∙ each_accepted (part_verdict given) size t (then-second _ _ fine) l)

-- what an answer tells of the verdict and the header
pub record Answered (v : Verdict) (h : Header) (size m n nonzeros : ℕ) (integer : Bool) : Type 0 where
  pub accepted : v ≡ accepted
  pub m_is : h.m ≡ m
  pub n_is : h.n ≡ n
  pub nonzeros_are : size ≡ nonzeros
  pub integer_is : is_integer h.field ≡ integer

pub answered :
    (text list parts : List ℕ) {m n nonzeros : ℕ} {integer : Bool} → read_call text list parts ≡ read_as m n nonzeros integer →
    Answered (read_verdict text list parts) (header_of text) (nonzeros_in (header_of text) (cells_of text)) m n nonzeros integer
unfolding read_call answer_read
answered text list parts e =
    let same = answered_by _ _ e in
    record {
      accepted = same.0;
      m_is = ap (λ (r : TextRead). r.m) same.1;
      n_is = ap (λ (r : TextRead). r.n) same.1;
      nonzeros_are = ap (λ (r : TextRead). r.nonzeros) same.1;
      integer_is = ap (λ (r : TextRead). r.integer) same.1;
    }

-- a reading of any text, with its answer
module _ (text list parts : List ℕ) (m n nonzeros : ℕ) (integer : Bool) (e : read_call text list parts ≡ read_as m n nonzeros integer) where
  pub read_list_fine : list_verdict m n nonzeros (read_list text list parts) ≡ accepted
  read_list_fine =
      let a = answered text list parts e in
      rw (sym a.m_is, sym a.n_is, sym a.nonzeros_are) (list_accepted text list parts a.accepted)

  -- its numbers are bytes, whatever stood in the slice
  pub read_bytes : Bytes (read_list text list parts) (entry_bytes * nonzeros)
  read_bytes =
      let a = answered text list parts e in
      rw (sym a.nonzeros_are) (list-bytes text list parts a.accepted)

  pub read_parts_fine : integer ≡ true → parts_verdict nonzeros (read_parts text list parts) ≡ accepted
  read_parts_fine i =
      let a = answered text list parts e in
      rw (sym a.nonzeros_are) (parts_accepted text list parts a.accepted (a.integer_is ∙ i))

  -- the list may be written with any parts that are accepted, and so with those that are read
  pub read_writes : (given : List ℕ) → parts_verdict nonzeros given ≡ accepted → write_verdict m n nonzeros (read_list text list parts) given ≡ accepted
  read_writes given fine =
      let a = answered text list parts e in
      rw
      (sym a.m_is, sym a.n_is, sym a.nonzeros_are)
      (split_accepted text list parts a.accepted given (ap (λ k. parts_verdict k given) a.nonzeros_are ∙ fine))
