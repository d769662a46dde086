-- Worked samples of reading: two texts read, and a refusal of each kind with its place.
-- Assumes nothing.
use Rattle.std.specs.Prelude.{true, false, List, [], ◌∷◌, ◌++◌, ◌≡◌, refl, ℕ, length}
use Rattle.counting.specs.Tests.{bit}
use Rattle.model.specs.declared.Word.TheVariants.{Banner, SizeLine, EntryForm, TooBig, OffMatrix, Repeated, Count, BadPart, ShortBuffer}
use Rattle.model.specs.Pattern.{list_of}
use Rattle.model.specs.Refusal.{accepted, refused, given, refusal}
use Rattle.texts.specs.Reading.{read_as}
use Rattle.texts.specs.Header.{header_of, head_verdict}
use Rattle.texts.specs.Reading.{read_call, read_list, read_parts, read_reply}
use Rattle.texts.specs.Computing.{computing}

-- %%MatrixMarket matrix coordinate pattern general, LF
abbrev pattern_line : List ℕ
pattern_line = 37 ∷ 37 ∷ 77 ∷ 97 ∷ 116 ∷ 114 ∷ 105 ∷ 120 ∷ 77 ∷ 97 ∷ 114 ∷ 107 ∷ 101 ∷ 116 ∷ 32 ∷ 109 ∷ 97 ∷ 116 ∷ 114 ∷ 105 ∷ 120 ∷ 32 ∷ 99 ∷ 111 ∷ 111 ∷ 114 ∷ 100 ∷ 105 ∷ 110 ∷ 97 ∷ 116 ∷ 101 ∷ 32 ∷ 112 ∷ 97 ∷ 116 ∷ 116 ∷ 101 ∷ 114 ∷ 110 ∷ 32 ∷ 103 ∷ 101 ∷ 110 ∷ 101 ∷ 114 ∷ 97 ∷ 108 ∷ 10 ∷ []

-- %%MatrixMarket MATRIX Coordinate  Integer general, a tab, CR LF
abbrev integer_line : List ℕ
integer_line = 37 ∷ 37 ∷ 77 ∷ 97 ∷ 116 ∷ 114 ∷ 105 ∷ 120 ∷ 77 ∷ 97 ∷ 114 ∷ 107 ∷ 101 ∷ 116 ∷ 32 ∷ 77 ∷ 65 ∷ 84 ∷ 82 ∷ 73 ∷ 88 ∷ 32 ∷ 67 ∷ 111 ∷ 111 ∷ 114 ∷ 100 ∷ 105 ∷ 110 ∷ 97 ∷ 116 ∷ 101 ∷ 32 ∷ 32 ∷ 73 ∷ 110 ∷ 116 ∷ 101 ∷ 103 ∷ 101 ∷ 114 ∷ 32 ∷ 103 ∷ 101 ∷ 110 ∷ 101 ∷ 114 ∷ 97 ∷ 108 ∷ 9 ∷ 13 ∷ 10 ∷ []

-- the 2 by 2 diagonal, its entries not in order
abbrev diagonal : List ℕ
diagonal = 50 ∷ 32 ∷ 50 ∷ 32 ∷ 50 ∷ 10 ∷ 50 ∷ 32 ∷ 50 ∷ 10 ∷ 49 ∷ 32 ∷ 49 ∷ 10 ∷ []

-- a comment, an empty line, and the same sizes with blanks and leading zeros; parts 2 and 1; the last line lacks LF
abbrev commented : List ℕ
commented = 37 ∷ 32 ∷ 97 ∷ 32 ∷ 37 ∷ 10 ∷ 32 ∷ 9 ∷ 10 ∷ 32 ∷ 32 ∷ 48 ∷ 48 ∷ 50 ∷ 32 ∷ 50 ∷ 32 ∷ 50 ∷ 32 ∷ 13 ∷ 10 ∷ 50 ∷ 32 ∷ 50 ∷ 32 ∷ 50 ∷ 10 ∷ 10 ∷ 49 ∷ 32 ∷ 49 ∷ 32 ∷ 49 ∷ []

-- a slice with room for three nonzeros
abbrev room : List ℕ
room = 9 ∷ 9 ∷ 9 ∷ 9 ∷ 9 ∷ 9 ∷ 9 ∷ 9 ∷ 9 ∷ 9 ∷ 9 ∷ 9 ∷ []

-- sizes and format
diagonal_read : read_call (pattern_line ++ diagonal) room [] ≡ read_as 2 2 2 false
unfolding computing
diagonal_read = refl

-- the list is sorted by row and then column, and bytes past it stay
diagonal-list : read_list (pattern_line ++ diagonal) room [] ≡ list_of (0 ∷ 0 ∷ 1 ∷ 1 ∷ []) ++ (9 ∷ 9 ∷ 9 ∷ 9 ∷ [])
unfolding computing
diagonal-list = refl

-- the parts of a pattern stay
diagonal_parts : read_parts (pattern_line ++ diagonal) room room ≡ room
unfolding computing
diagonal_parts = refl

-- any letter case, comments, empty lines, CR before LF
commented_read : read_call (integer_line ++ commented) room room ≡ read_as 2 2 2 true
unfolding computing
commented_read = refl

-- the parts in the list's order
commented_parts : read_parts (integer_line ++ commented) room room ≡ 0 ∷ 1 ∷ 9 ∷ 9 ∷ 9 ∷ 9 ∷ 9 ∷ 9 ∷ 9 ∷ 9 ∷ 9 ∷ 9 ∷ []
unfolding computing
commented_parts = refl

-- 2 300 2 LF 2 300 LF 1 257 LF
abbrev wide-text : List ℕ
wide-text = 50 ∷ 32 ∷ 51 ∷ 48 ∷ 48 ∷ 32 ∷ 50 ∷ 10 ∷ 50 ∷ 32 ∷ 51 ∷ 48 ∷ 48 ∷ 10 ∷ 49 ∷ 32 ∷ 50 ∷ 53 ∷ 55 ∷ 10 ∷ []

-- column numbers past a byte, to the last
wide :
    (read_call (pattern_line ++ wide-text) room [] ≡ read_as 2 300 2 false)
    × (read_list (pattern_line ++ wide-text) room [] ≡ 0 ∷ 0 ∷ 0 ∷ 1 ∷ 1 ∷ 0 ∷ 43 ∷ 1 ∷ 9 ∷ 9 ∷ 9 ∷ 9 ∷ [])
unfolding computing
wide = (refl, refl)

-- nothing
abbrev no_text-text : List ℕ
no_text-text = []

-- 1: an empty text
no_text : read_call no_text-text room room ≡ refused Banner 0
unfolding computing
no_text = refl

-- %%matrixMarket matrix coordinate pattern general LF 1 1 0 LF
abbrev other-banner-text : List ℕ
other-banner-text = 37 ∷ 37 ∷ 109 ∷ 97 ∷ 116 ∷ 114 ∷ 105 ∷ 120 ∷ 77 ∷ 97 ∷ 114 ∷ 107 ∷ 101 ∷ 116 ∷ 32 ∷ 109 ∷ 97 ∷ 116 ∷ 114 ∷ 105 ∷ 120 ∷ 32 ∷ 99 ∷ 111 ∷ 111 ∷ 114 ∷ 100 ∷ 105 ∷ 110 ∷ 97 ∷ 116 ∷ 101 ∷ 32 ∷ 112 ∷ 97 ∷ 116 ∷ 116 ∷ 101 ∷ 114 ∷ 110 ∷ 32 ∷ 103 ∷ 101 ∷ 110 ∷ 101 ∷ 114 ∷ 97 ∷ 108 ∷ 10 ∷ 49 ∷ 32 ∷ 49 ∷ 32 ∷ 48 ∷ 10 ∷ []

-- 1: a letter of the first word in another case
other_banner : read_call other-banner-text room room ≡ refused Banner 0
unfolding computing
other_banner = refl

-- %%MatrixMarket matrix coordinate pattern general x LF 1 1 0 LF
abbrev further-word-text : List ℕ
further-word-text = 37 ∷ 37 ∷ 77 ∷ 97 ∷ 116 ∷ 114 ∷ 105 ∷ 120 ∷ 77 ∷ 97 ∷ 114 ∷ 107 ∷ 101 ∷ 116 ∷ 32 ∷ 109 ∷ 97 ∷ 116 ∷ 114 ∷ 105 ∷ 120 ∷ 32 ∷ 99 ∷ 111 ∷ 111 ∷ 114 ∷ 100 ∷ 105 ∷ 110 ∷ 97 ∷ 116 ∷ 101 ∷ 32 ∷ 112 ∷ 97 ∷ 116 ∷ 116 ∷ 101 ∷ 114 ∷ 110 ∷ 32 ∷ 103 ∷ 101 ∷ 110 ∷ 101 ∷ 114 ∷ 97 ∷ 108 ∷ 32 ∷ 120 ∷ 10 ∷ 49 ∷ 32 ∷ 49 ∷ 32 ∷ 48 ∷ 10 ∷ []

-- 1: a further word
further_word : read_call further-word-text room room ≡ refused Banner 0
unfolding computing
further_word = refl

-- % only LF
abbrev no-size-line-text : List ℕ
no-size-line-text = 37 ∷ 32 ∷ 111 ∷ 110 ∷ 108 ∷ 121 ∷ 10 ∷ []

-- 2: at the text's length
no_size_line : read_call (pattern_line ++ no-size-line-text) room room ≡ refused SizeLine 56
unfolding computing
no_size_line = refl

-- % LF 1 1 0000000000 LF
abbrev ten-digits-text : List ℕ
ten-digits-text = 37 ∷ 10 ∷ 49 ∷ 32 ∷ 49 ∷ 32 ∷ 48 ∷ 48 ∷ 48 ∷ 48 ∷ 48 ∷ 48 ∷ 48 ∷ 48 ∷ 48 ∷ 48 ∷ 10 ∷ []

-- 2: ten digits are no number
ten_digits : read_call (pattern_line ++ ten-digits-text) room room ≡ refused SizeLine 51
unfolding computing
ten_digits = refl

-- % LF 1 1 0 LF
abbrev late-percent-text : List ℕ
late-percent-text = 32 ∷ 37 ∷ 10 ∷ 49 ∷ 32 ∷ 49 ∷ 32 ∷ 48 ∷ 10 ∷ []

-- 2: a comment starts with its percent sign
late_percent : read_call (pattern_line ++ late-percent-text) room room ≡ refused SizeLine 49
unfolding computing
late_percent = refl

-- 301 1 0 LF
abbrev large-rows-text : List ℕ
large-rows-text = 51 ∷ 48 ∷ 49 ∷ 32 ∷ 49 ∷ 32 ∷ 48 ∷ 10 ∷ []

-- 4: at the size line
large_rows : read_call (pattern_line ++ large-rows-text) room room ≡ refused TooBig 49
unfolding computing
large_rows = refl

-- 300 300 4000 LF
abbrev largest-text : List ℕ
largest-text = pattern_line ++ (51 ∷ 48 ∷ 48 ∷ 32 ∷ 51 ∷ 48 ∷ 48 ∷ 32 ∷ 52 ∷ 48 ∷ 48 ∷ 48 ∷ 10 ∷ [])

-- 300 300 4001 LF
abbrev too_many-text : List ℕ
too_many-text = pattern_line ++ (51 ∷ 48 ∷ 48 ∷ 32 ∷ 51 ∷ 48 ∷ 48 ∷ 32 ∷ 52 ∷ 48 ∷ 48 ∷ 49 ∷ 10 ∷ [])

-- the checks before the entries: the largest sizes, with a list of 16,000 bytes, and a nonzero more
largest :
    (head_verdict (header_of largest-text) (length largest-text) 16000 0 ≡ accepted)
    × (head_verdict (header_of largest-text) (length largest-text) 15999 0 ≡ refused ShortBuffer 0)
    × (head_verdict (header_of too_many-text) (length too_many-text) 16004 0 ≡ refused TooBig 49)
unfolding computing
largest = (refl, refl, refl)

-- 1 1 2 LF
abbrev many-text : List ℕ
many-text = 49 ∷ 32 ∷ 49 ∷ 32 ∷ 50 ∷ 10 ∷ []

-- 4: more nonzeros than cells
many : read_call (pattern_line ++ many-text) room room ≡ refused TooBig 49
unfolding computing
many = refl

-- 2 2 2 LF x
abbrev short-list-text : List ℕ
short-list-text = 50 ∷ 32 ∷ 50 ∷ 32 ∷ 50 ∷ 10 ∷ 120 ∷ []

-- 9: before the entries
short_list : read_call (pattern_line ++ short-list-text) (9 ∷ 9 ∷ 9 ∷ []) [] ≡ refused ShortBuffer 0
unfolding computing
short_list = refl

-- 1 1 1 LF  LF 1 1 1 LF
abbrev three-numbers-text : List ℕ
three-numbers-text = 49 ∷ 32 ∷ 49 ∷ 32 ∷ 49 ∷ 10 ∷ 10 ∷ 49 ∷ 32 ∷ 49 ∷ 32 ∷ 49 ∷ 10 ∷ []

-- 3: at the entry's line
three_numbers : read_call (pattern_line ++ three-numbers-text) room room ≡ refused EntryForm 56
unfolding computing
three_numbers = refl

-- 1 1 1 LF 1 1 CR
abbrev bare-return-text : List ℕ
bare-return-text = 49 ∷ 32 ∷ 49 ∷ 32 ∷ 49 ∷ 10 ∷ 49 ∷ 32 ∷ 49 ∷ 13 ∷ []

-- 3: a CR at the end of a text without LF stays
bare_return : read_call (pattern_line ++ bare-return-text) room room ≡ refused EntryForm 55
unfolding computing
bare_return = refl

-- 1 1 1 LF 0 1 LF
abbrev row_zero-text : List ℕ
row_zero-text = 49 ∷ 32 ∷ 49 ∷ 32 ∷ 49 ∷ 10 ∷ 48 ∷ 32 ∷ 49 ∷ 10 ∷ []

-- 5: counted from 1
row_zero : read_call (pattern_line ++ row_zero-text) room room ≡ refused OffMatrix 55
unfolding computing
row_zero = refl

-- 2 2 3 LF 1 2 LF 2 1 LF  1 2 LF
abbrev again-text : List ℕ
again-text = 50 ∷ 32 ∷ 50 ∷ 32 ∷ 51 ∷ 10 ∷ 49 ∷ 32 ∷ 50 ∷ 10 ∷ 50 ∷ 32 ∷ 49 ∷ 10 ∷ 32 ∷ 49 ∷ 32 ∷ 50 ∷ 10 ∷ []

-- 6: the nonzero was given before
again : read_call (pattern_line ++ again-text) room room ≡ refused Repeated 63
unfolding computing
again = refl

-- 2 2 2 LF 1 2 LF
abbrev missing-text : List ℕ
missing-text = 50 ∷ 32 ∷ 50 ∷ 32 ∷ 50 ∷ 10 ∷ 49 ∷ 32 ∷ 50 ∷ 10 ∷ []

-- 7: at the text's length
missing : read_call (pattern_line ++ missing-text) room room ≡ refused Count 59
unfolding computing
missing = refl

-- 1 1 0 LF  LF % LF
abbrev past-the-last-text : List ℕ
past-the-last-text = 49 ∷ 32 ∷ 49 ∷ 32 ∷ 48 ∷ 10 ∷ 10 ∷ 37 ∷ 10 ∷ []

-- 7: before the form of the line
past_the_last : read_call (pattern_line ++ past-the-last-text) room room ≡ refused Count 56
unfolding computing
past_the_last = refl

-- 1 1 1 LF 1 1 3 LF
abbrev part-three-text : List ℕ
part-three-text = 49 ∷ 32 ∷ 49 ∷ 32 ∷ 49 ∷ 10 ∷ 49 ∷ 32 ∷ 49 ∷ 32 ∷ 51 ∷ 10 ∷ []

-- 8: p is 1 or 2
part_three : read_call (integer_line ++ part-three-text) room room ≡ refused BadPart 58
unfolding computing
part_three = refl

-- what a reading replies in numbers: m, n, N, and 1 for integer
pattern_reply : read_reply (read_as 2 3 4 false) ≡ record { number = 0; place = 0; values = 2 ∷ 3 ∷ 4 ∷ 0 ∷ [] }
unfolding bit
pattern_reply = refl

integer_reply : read_reply (read_as 2 3 4 true) ≡ record { number = 0; place = 0; values = 2 ∷ 3 ∷ 4 ∷ 1 ∷ [] }
unfolding bit
integer_reply = refl

again_reply : read_reply (refused Repeated 63) ≡ record { number = 6; place = 63; values = [] }
again_reply = refl
