-- Laws of what a reading answers and gives.
-- Assumes nothing.
use Rattle.std.specs.Prelude.{Result, Ok, Err}
use mathlib.Core.Bool.{Bool, true, false}
use mathlib.Core.List.{List, [], ◌∷◌}
use mathlib.Core.Path.{◌≡◌, refl, sym, ◌∙◌, ap}
use Prim.Native.Nat.{ℕ, ◌*◌, ◌≤◌}
use lib.ListN.{length, replicate}
use borrow.Author.Tests.{eqb-true, not-false}
use Rattle.counting.specs.Tests.{pick, bit}
use Rattle.counting.specs.Sums.{count}
use Rattle.counting.proofs.Joined.{by_test, pick_true, pick-false, never}
use Rattle.model.specs.declared.Refusal.{Refusal}
use Rattle.model.specs.declared.Word.{Word}
use Rattle.model.specs.declared.Word.TheVariants.{ShortBuffer, NotSquare}
use Rattle.model.specs.Limits.{line_limit}
use Rattle.model.specs.Refusal.{Verdict, accepted, refused, given, reply_after, ◌then◌}
use Rattle.model.specs.Calls.{sizes_verdict}
use Rattle.model.proofs.Theorems.Checks.{refuse-not, then-second, then_accepted, then_refused, then-first, rows_range, columns_range}
use Rattle.scanning.specs.Checks.{moved}
use Rattle.scanning.specs.Words.{is_integer}
use Rattle.texts.specs.declared.Header.{Header}
use Rattle.texts.specs.declared.TextRead.{TextRead}
use Rattle.texts.specs.Reading.{read_as}
use Rattle.texts.specs.Header.{header_of, short, size_line_verdict, room_verdict, square_verdict, head_verdict}
use Rattle.texts.specs.Entries.{cell_room, no_cells, is_given, Entries, entries_from}
use Rattle.texts.specs.Reading.{listed, parted, given_parts, entries_below, nonzeros_in, opened_verdict, answer_read, output_after, list_given, parts_given, text_verdict, below_verdict, read_verdict, cells_of, read_call, read_list, read_parts, read_reply, read_replies}

moved-fine : (v : Verdict) (place : ℕ) → moved v place ≡ accepted → v ≡ accepted
moved-fine (Ok _) place h = refl
moved-fine (Err refusal) place h = never (cc)

-- past the check of so many nonzeros, the sizes are in their ranges and the slices have room
module _ (h : Header) (nonzeros list parts : ℕ) (e : room_verdict h nonzeros list parts ≡ accepted) where
  pub room_sizes : sizes_verdict h.m h.n nonzeros ≡ accepted
  unfolding room_verdict size_line_verdict
  room_sizes = moved-fine (sizes_verdict h.m h.n nonzeros) h.at (then-first _ _ e)

  pub room_enough : short h nonzeros list parts ≡ false
  unfolding room_verdict
  room_enough = refuse-not _ ShortBuffer 0 (then-second _ _ e)

-- past the checks before the entries: of a symmetric text m and n are in their range and equal, of another there is room
module _ (h : Header) (text list parts : ℕ) (e : head_verdict h text list parts ≡ accepted) where
  sizes_fine : pick h.symmetric (square_verdict h) (room_verdict h h.entries list parts) ≡ accepted
  unfolding head_verdict
  sizes_fine = then-second _ _ e

  pub head_square : h.symmetric ≡ true → (sizes_verdict h.m h.n 0 ≡ accepted) × (h.m ≡ h.n)
  unfolding square_verdict size_line_verdict
  head_square s =
      let square = sym (pick_true (square_verdict h) _ s) ∙ sizes_fine in (
        moved-fine (sizes_verdict h.m h.n 0) h.at (then-first _ _ square),
        eqb-true h.m h.n (not-false _ (refuse-not _ NotSquare h.at (then-second _ _ square))),
      )

  pub head_room : h.symmetric ≡ false → room_verdict h h.entries list parts ≡ accepted
  head_room s = sym (pick-false (square_verdict h) _ s) ∙ sizes_fine

  -- m and n are in their range
  pub head_lines : (h.m ≤ line_limit) × (h.n ≤ line_limit)
  head_lines =
      by_test
      h.symmetric
      (λ s. let fine = (head_square s).0 in ((rows_range h.m h.n 0 fine).1, (columns_range h.m h.n 0 fine).1))
      (λ s. let fine = room_sizes h h.entries list parts (head_room s) in
      ((rows_range h.m h.n h.entries fine).1, (columns_range h.m h.n h.entries fine).1))

-- the check after the last entry
module _ (h : Header) (nonzeros list parts : ℕ) where
  pub opened_symmetric : (r : Verdict) → h.symmetric ≡ true → r ≡ room_verdict h nonzeros list parts → r ≡ opened_verdict h nonzeros list parts
  unfolding opened_verdict
  opened_symmetric r s e = e ∙ sym (pick_true _ accepted s)

  pub opened_general : h.symmetric ≡ false → accepted ≡ opened_verdict h nonzeros list parts
  unfolding opened_verdict
  opened_general s = sym (pick-false _ accepted s)

-- answer and output after a verdict
output-given : {v : Verdict} (new old : List ℕ) → v ≡ accepted → output_after v new old ≡ new
unfolding output_after
output-given new old e = rw e

output-kept : {v : Verdict} (refusal : Refusal) (new old : List ℕ) → v ≡ Err refusal → output_after v new old ≡ old
unfolding output_after
output-kept refusal new old e = rw e

-- the parts after the cells are given
pub parts-integer :
    (h : Header) (cells parts new : List ℕ) (m : ℕ) → is_integer h.field ≡ true → m ≡ h.m → new ≡ parted cells (line_limit * m) parts → new ≡ given_parts h cells parts
unfolding given_parts
parts-integer h cells parts new m i e n =
    n ∙ ap (λ k. parted cells (line_limit * k) parts) e ∙ sym (pick_true (parted cells (line_limit * h.m) parts) parts i)

pub parts-other : (h : Header) (cells parts : List ℕ) → is_integer h.field ≡ false → parts ≡ given_parts h cells parts
unfolding given_parts
parts-other h cells parts i = sym (pick-false (parted cells (line_limit * h.m) parts) parts i)

-- what is answered and given after a verdict that is reached in steps
module _ (h : Header) (v call : Verdict) (e : v ≡ call) where
  module _ (a : v ≡ accepted) where
    pub answer-read :
        (nonzeros all : ℕ) (integer : Bool) → nonzeros ≡ all → integer ≡ is_integer h.field →
        read_as h.m h.n nonzeros integer ≡ answer_read call h all
    unfolding answer_read
    answer-read nonzeros all integer n i =
        ap (λ k. read_as h.m h.n k integer) n
        ∙ ap (read_as h.m h.n all) i
        ∙ ap (λ x. answer_read x h all) (sym a ∙ e)

    pub list_read : (cells all list after : List ℕ) → cells ≡ all → after ≡ listed cells (line_limit * h.m) list → after ≡ list_given call h all list
    unfolding list_given
    list_read cells all list after c l =
        l ∙ ap (λ x. listed x (line_limit * h.m) list) c ∙ sym (output-given _ list (sym e ∙ a))

    pub parts_read : (cells all parts after : List ℕ) → cells ≡ all → after ≡ given_parts h cells parts → after ≡ parts_given call h all parts
    unfolding parts_given
    parts_read cells all parts after c l = l ∙ ap (λ x. given_parts h x parts) c ∙ sym (output-given _ parts (sym e ∙ a))

  module _ (refusal : Refusal) (a : v ≡ Err refusal) where
    pub answer_refused : (nonzeros : ℕ) → Err refusal ≡ answer_read call h nonzeros
    unfolding answer_read
    answer_refused nonzeros = ap (λ x. answer_read x h nonzeros) (sym a ∙ e)

    pub list_kept : (cells list : List ℕ) → list ≡ list_given call h cells list
    unfolding list_given
    list_kept cells list = sym (output-kept refusal _ list (sym e ∙ a))

    pub parts_kept : (cells parts : List ℕ) → parts ≡ parts_given call h cells parts
    unfolding parts_given
    parts_kept cells parts = sym (output-kept refusal _ parts (sym e ∙ a))

-- a table of zeros
pub no_cells_lem : replicate cell_room 0 ≡ no_cells
unfolding no_cells
no_cells_lem = refl

-- the entries below the size line, read into a table that starts empty
module _ (text : List ℕ) (h : Header) (start : List ℕ) (s : start ≡ no_cells) where
  below : entries_from text h (length text) h.next 0 start ≡ entries_below text h
  unfolding entries_below
  below = ap (entries_from text h (length text) h.next 0) s

  pub cells_are : (new : List ℕ) → new ≡ (entries_from text h (length text) h.next 0 start).cells → new ≡ (entries_below text h).cells
  cells_are new f = f ∙ ap (λ (x : Entries). x.cells) below

  pub nonzeros_are :
      (new : List ℕ) (nonzeros : ℕ) → new ≡ (entries_from text h (length text) h.next 0 start).cells →
      nonzeros ≡ count (is_given new) (line_limit * h.m) → nonzeros ≡ nonzeros_in h (entries_below text h).cells
  unfolding nonzeros_in
  nonzeros_are new nonzeros f n = n ∙ ap (λ x. count (is_given x) (line_limit * h.m)) (cells_are new f)

  pub below_is :
      (v opened r : Verdict) (new : List ℕ) (nonzeros list parts : ℕ) →
      v ≡ (entries_from text h (length text) h.next 0 start).verdict →
      new ≡ (entries_from text h (length text) h.next 0 start).cells → nonzeros ≡ count (is_given new) (line_limit * h.m) →
      opened ≡ opened_verdict h nonzeros list parts → r ≡ (v then opened) → r ≡ below_verdict text h list parts
  unfolding below_verdict
  below_is v opened r new nonzeros list parts e f n o q =
      q
      ∙ ap (λ x. x then opened) (e ∙ ap (λ (x : Entries). x.verdict) below)
      ∙ ap (λ x. (entries_below text h).verdict then x) (o ∙ ap (λ k. opened_verdict h k list parts) (nonzeros_are new nonzeros f n))

-- a reading: the checks before the entries, then those from the entries on
module _
    (text list parts : List ℕ) (h : Header) (v : Verdict) (e : h ≡ header_of text)
    (f : v ≡ head_verdict h (length text) (length list) (length parts)) where
  abbrev below_h : Verdict
  below_h = below_verdict text h (length list) (length parts)

  text-is : text_verdict text list parts ≡ v
  unfolding text_verdict
  text-is = sym (f ∙ ap (λ x. head_verdict x (length text) (length list) (length parts)) e)

  read_is : v ≡ accepted → read_verdict text list parts ≡ below_h
  unfolding read_verdict
  read_is a = then_accepted _ (text-is ∙ a) ∙ ap (λ x. below_verdict text x (length list) (length parts)) (sym e)

  read_not : (refusal : Refusal) → v ≡ Err refusal → read_verdict text list parts ≡ Err refusal
  unfolding read_verdict
  read_not refusal a = ap (λ x. x then below_verdict text (header_of text) (length list) (length parts)) (text-is ∙ a)

  pub read_answer-is : (r : Result TextRead Refusal) → v ≡ accepted → r ≡ answer_read below_h h (nonzeros_in h (entries_below text h).cells) → r ≡ read_call text list parts
  unfolding read_call cells_of
  read_answer-is r a q =
      q
      ∙ ap (λ x. answer_read x h (nonzeros_in h (entries_below text h).cells)) (sym (read_is a))
      ∙ ap (λ x. answer_read (read_verdict text list parts) x (nonzeros_in x (entries_below text x).cells)) e

  pub read_list-is : (new : List ℕ) → v ≡ accepted → new ≡ list_given below_h h (entries_below text h).cells list → new ≡ read_list text list parts
  unfolding read_list cells_of
  read_list-is new a q =
      q
      ∙ ap (λ x. list_given x h (entries_below text h).cells list) (sym (read_is a))
      ∙ ap (λ x. list_given (read_verdict text list parts) x (entries_below text x).cells list) e

  pub read_parts-is : (new : List ℕ) → v ≡ accepted → new ≡ parts_given below_h h (entries_below text h).cells parts → new ≡ read_parts text list parts
  unfolding read_parts cells_of
  read_parts-is new a q =
      q
      ∙ ap (λ x. parts_given x h (entries_below text h).cells parts) (sym (read_is a))
      ∙ ap (λ x. parts_given (read_verdict text list parts) x (entries_below text x).cells parts) e

  module _ (refusal : Refusal) (a : v ≡ Err refusal) where
    pub read_refused : Err refusal ≡ read_call text list parts
    unfolding read_call
    read_refused = answer_refused (header_of text) (read_verdict text list parts) (read_verdict text list parts) refl refusal (read_not refusal a) _

    pub read_list_kept : list ≡ read_list text list parts
    unfolding read_list
    read_list_kept = list_kept (header_of text) (read_verdict text list parts) (read_verdict text list parts) refl refusal (read_not refusal a) _ list

    pub read_parts_kept : parts ≡ read_parts text list parts
    unfolding read_parts
    read_parts_kept = parts_kept (header_of text) (read_verdict text list parts) (read_verdict text list parts) refl refusal (read_not refusal a) _ parts

-- a reading in numbers: m, n, N, and 1 for integer
read-by-verdict :
    (v : Verdict) (h : Header) (nonzeros : ℕ) →
    read_reply (answer_read v h nonzeros) ≡ reply_after v (given (h.m ∷ h.n ∷ nonzeros ∷ bit (is_integer h.field) ∷ []))
unfolding answer_read
read-by-verdict (Ok _) h nonzeros = refl
read-by-verdict (Err refusal) h nonzeros = refl

module _ (text list parts : List ℕ) where
  pub read-replies : read_reply (read_call text list parts) ≡ read_replies text list parts
  unfolding read_call read_replies
  read-replies = read-by-verdict (read_verdict text list parts) (header_of text) _

  -- an answer that equals the definition replies so
  pub read_told :
      {answer : Result TextRead Refusal} → answer ≡ read_call text list parts → read_reply answer ≡ read_replies text list parts
  read_told e = ap read_reply e ∙ read-replies
