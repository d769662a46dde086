-- Document 01, 'Texts', and request 1 of document 02: what reading a text gives, for any text and any slices.
-- Assumes nothing.
use Rattle.std.specs.Prelude.{List, [], ◌∷◌, ℕ, zero, suc, ◌-◌, ◌*◌, ◌/◌, ◌%◌, length, get_or, set, Bool, Result, Ok, Err}
use Rattle.counting.specs.Tests.{pick, bit}
use Rattle.counting.specs.Sums.{count}
use Rattle.model.specs.Limits.{line_limit}
use Rattle.model.specs.declared.Refusal.{Refusal}
use Rattle.model.specs.Refusal.{Verdict, accepted, Reply, given, reply_after, ◌then◌, answer_reply}
use Rattle.model.specs.Pattern.{with_entry}
use Rattle.scanning.specs.Words.{is_integer}
use Rattle.texts.specs.declared.Header.{Header}
use Rattle.texts.specs.declared.TextRead.{TextRead}
use Rattle.texts.specs.Header.{header_of, room_verdict, head_verdict}
use Rattle.texts.specs.Entries.{no_cells, is_given, Entries, entries_from}

-- a list's row and column number for nonzero t, where cell p gives it
unfoldable pub list_cell : List ℕ → ℕ → ℕ → ℕ → ℕ → List ℕ → List ℕ
list_cell cells p t row column list =
    pick (is_given cells p) (with_entry t row column list) list

-- a part byte for nonzero t, where cell p gives it
unfoldable pub part_cell : List ℕ → ℕ → ℕ → List ℕ → List ℕ
part_cell cells p t parts = pick (is_given cells p) (set parts t (get_or cells p 0 - 1)) parts

-- the list: the nonzeros of the first cells, by row and then column; other bytes stay
unfoldable pub listed : List ℕ → ℕ → List ℕ → List ℕ
listed cells zero list = list
listed cells (suc p) list =
    list_cell cells p (count (is_given cells) p) (p / line_limit) (p % line_limit) (listed cells p list)

-- the parts of the same nonzeros; other bytes stay
unfoldable pub parted : List ℕ → ℕ → List ℕ → List ℕ
parted cells zero parts = parts
parted cells (suc p) parts = part_cell cells p (count (is_given cells) p) (parted cells p parts)

-- the parts for integer; else they keep their contents
unfoldable pub given_parts : Header → List ℕ → List ℕ → List ℕ
given_parts h cells parts = pick (is_integer h.field) (parted cells (line_limit * h.m) parts) parts

-- the entries below the size line
unfoldable pub entries_below : List ℕ → Header → Entries
entries_below text h = entries_from text h (length text) h.next 0 no_cells

-- N: the nonzeros after opening out, one for each cell given
unfoldable pub nonzeros_in : Header → List ℕ → ℕ
nonzeros_in h cells = count (is_given cells) (line_limit * h.m)

-- symmetric, after the last entry: 4 for the opened N, at the size line, then 9; else these were checked before the entries
unfoldable pub opened_verdict : Header → ℕ → ℕ → ℕ → Verdict
opened_verdict h nonzeros list parts = pick h.symmetric (room_verdict h nonzeros list parts) accepted

-- these sizes, and whether there are parts
abbrev pub read_as : ℕ → ℕ → ℕ → Bool → Result TextRead Refusal
read_as m n nonzeros integer = Ok (record { m = m; n = n; nonzeros = nonzeros; integer = integer })

-- what a reading answers, after this verdict
unfoldable pub answer_read : Verdict → Header → ℕ → Result TextRead Refusal
answer_read verdict h nonzeros = verdict then read_as h.m h.n nonzeros (is_integer h.field)

-- output only where nothing is refused
unfoldable pub output_after : Verdict → List ℕ → List ℕ → List ℕ
output_after (Ok _) new old = new
output_after (Err refusal) new old = old

-- the list's bytes after this verdict
unfoldable pub list_given : Verdict → Header → List ℕ → List ℕ → List ℕ
list_given verdict h cells list = output_after verdict (listed cells (line_limit * h.m) list) list

-- the parts' bytes after this verdict
unfoldable pub parts_given : Verdict → Header → List ℕ → List ℕ → List ℕ
parts_given verdict h cells parts = output_after verdict (given_parts h cells parts) parts

-- the checks before the entries, of a text and slices
unfoldable pub text_verdict : List ℕ → List ℕ → List ℕ → Verdict
text_verdict text list parts = head_verdict (header_of text) (length text) (length list) (length parts)

-- the checks from the entries on, with slices of these lengths
unfoldable pub below_verdict : List ℕ → Header → ℕ → ℕ → Verdict
below_verdict text h list parts =
    let e = entries_below text h in
    e.verdict then opened_verdict h (nonzeros_in h e.cells) list parts

-- the checks of a text: length, 1, 2, 4, 9, then the entries; for symmetric length, 1, 2, 4, 15, the entries, 4, 9
unfoldable pub read_verdict : List ℕ → List ℕ → List ℕ → Verdict
read_verdict text list parts =
    text_verdict text list parts then below_verdict text (header_of text) (length list) (length parts)

-- the table of cells that a text gives
unfoldable pub cells_of : List ℕ → List ℕ
cells_of text = (entries_below text (header_of text)).cells

-- what a reading answers
unfoldable pub read_call : List ℕ → List ℕ → List ℕ → Result TextRead Refusal
read_call text list parts =
    let h = header_of text in
    answer_read (read_verdict text list parts) h (nonzeros_in h (cells_of text))

-- the list's bytes after a reading
unfoldable pub read_list : List ℕ → List ℕ → List ℕ → List ℕ
read_list text list parts = list_given (read_verdict text list parts) (header_of text) (cells_of text) list

-- the parts' bytes after a reading
unfoldable pub read_parts : List ℕ → List ℕ → List ℕ → List ℕ
read_parts text list parts = parts_given (read_verdict text list parts) (header_of text) (cells_of text) parts

-- the number and values of each case of an answer: m, n, N, and 1 for integer, else 0
abbrev pub read_reply : Result TextRead Refusal → Reply
read_reply = answer_reply (λ text. given (text.m ∷ text.n ∷ text.nonzeros ∷ bit text.integer ∷ []))

-- what a reading replies: m and n of the header, N, and 1 for integer
unfoldable pub read_replies : List ℕ → List ℕ → List ℕ → Reply
read_replies text list parts =
    let h = header_of text in
    reply_after
    (read_verdict text list parts)
    (given (h.m ∷ h.n ∷ nonzeros_in h (cells_of text) ∷ bit (is_integer h.field) ∷ []))
