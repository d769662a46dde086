-- Worked samples of reading symmetric texts and real values: texts read, and refusals with their places.
-- Assumes nothing.
use Rattle.std.specs.Prelude.{true, false, List, [], ◌∷◌, ◌++◌, ◌≡◌, refl, ℕ}
use Rattle.model.specs.Refusal.{accepted, refused}
use Rattle.model.specs.declared.Word.TheVariants.{Banner, EntryForm, TooBig, OffMatrix, Repeated, Count, ShortBuffer, NotSquare, AboveDiagonal}
use Rattle.model.specs.Pattern.{list_of}
use Rattle.scanning.specs.declared.Field.TheVariants.{Pattern}
use Rattle.texts.specs.declared.Header.{Header}
use Rattle.texts.specs.Reading.{read_as}
use Rattle.texts.specs.Reading.{opened_verdict, read_call, read_list, read_parts}
use Rattle.texts.specs.Computing.{computing}

-- %%MatrixMarket matrix coordinate pattern symmetric, LF
abbrev pattern_line : List ℕ
pattern_line = 37 ∷ 37 ∷ 77 ∷ 97 ∷ 116 ∷ 114 ∷ 105 ∷ 120 ∷ 77 ∷ 97 ∷ 114 ∷ 107 ∷ 101 ∷ 116 ∷ 32 ∷ 109 ∷ 97 ∷ 116 ∷ 114 ∷ 105 ∷ 120 ∷ 32 ∷ 99 ∷ 111 ∷ 111 ∷ 114 ∷ 100 ∷ 105 ∷ 110 ∷ 97 ∷ 116 ∷ 101 ∷ 32 ∷ 112 ∷ 97 ∷ 116 ∷ 116 ∷ 101 ∷ 114 ∷ 110 ∷ 32 ∷ 115 ∷ 121 ∷ 109 ∷ 109 ∷ 101 ∷ 116 ∷ 114 ∷ 105 ∷ 99 ∷ 10 ∷ []

-- %%MatrixMarket matrix coordinate integer symmetric, LF
abbrev integer_line : List ℕ
integer_line = 37 ∷ 37 ∷ 77 ∷ 97 ∷ 116 ∷ 114 ∷ 105 ∷ 120 ∷ 77 ∷ 97 ∷ 114 ∷ 107 ∷ 101 ∷ 116 ∷ 32 ∷ 109 ∷ 97 ∷ 116 ∷ 114 ∷ 105 ∷ 120 ∷ 32 ∷ 99 ∷ 111 ∷ 111 ∷ 114 ∷ 100 ∷ 105 ∷ 110 ∷ 97 ∷ 116 ∷ 101 ∷ 32 ∷ 105 ∷ 110 ∷ 116 ∷ 101 ∷ 103 ∷ 101 ∷ 114 ∷ 32 ∷ 115 ∷ 121 ∷ 109 ∷ 109 ∷ 101 ∷ 116 ∷ 114 ∷ 105 ∷ 99 ∷ 10 ∷ []

-- %%MatrixMarket matrix coordinate real general, LF
abbrev real_line : List ℕ
real_line = 37 ∷ 37 ∷ 77 ∷ 97 ∷ 116 ∷ 114 ∷ 105 ∷ 120 ∷ 77 ∷ 97 ∷ 114 ∷ 107 ∷ 101 ∷ 116 ∷ 32 ∷ 109 ∷ 97 ∷ 116 ∷ 114 ∷ 105 ∷ 120 ∷ 32 ∷ 99 ∷ 111 ∷ 111 ∷ 114 ∷ 100 ∷ 105 ∷ 110 ∷ 97 ∷ 116 ∷ 101 ∷ 32 ∷ 114 ∷ 101 ∷ 97 ∷ 108 ∷ 32 ∷ 103 ∷ 101 ∷ 110 ∷ 101 ∷ 114 ∷ 97 ∷ 108 ∷ 10 ∷ []

-- %%MatrixMarket Matrix Coordinate REAL Symmetric, LF
abbrev both_line : List ℕ
both_line = 37 ∷ 37 ∷ 77 ∷ 97 ∷ 116 ∷ 114 ∷ 105 ∷ 120 ∷ 77 ∷ 97 ∷ 114 ∷ 107 ∷ 101 ∷ 116 ∷ 32 ∷ 77 ∷ 97 ∷ 116 ∷ 114 ∷ 105 ∷ 120 ∷ 32 ∷ 67 ∷ 111 ∷ 111 ∷ 114 ∷ 100 ∷ 105 ∷ 110 ∷ 97 ∷ 116 ∷ 101 ∷ 32 ∷ 82 ∷ 69 ∷ 65 ∷ 76 ∷ 32 ∷ 83 ∷ 121 ∷ 109 ∷ 109 ∷ 101 ∷ 116 ∷ 114 ∷ 105 ∷ 99 ∷ 10 ∷ []

-- slices with room for four nonzeros
abbrev list-room : List ℕ
list-room = 9 ∷ 9 ∷ 9 ∷ 9 ∷ 9 ∷ 9 ∷ 9 ∷ 9 ∷ 9 ∷ 9 ∷ 9 ∷ 9 ∷ 9 ∷ 9 ∷ 9 ∷ 9 ∷ []

abbrev parts-room : List ℕ
parts-room = 9 ∷ 9 ∷ 9 ∷ 9 ∷ []

-- 2 2 2 LF 2 1 LF 1 1 LF
abbrev opened-text : List ℕ
opened-text = pattern_line ++ (50 ∷ 32 ∷ 50 ∷ 32 ∷ 50 ∷ 10 ∷ 50 ∷ 32 ∷ 49 ∷ 10 ∷ 49 ∷ 32 ∷ 49 ∷ 10 ∷ [])

-- an entry below the diagonal stands for two nonzeros, one on it for one
opened :
    (read_call opened-text list-room parts-room ≡ read_as 2 2 3 false)
    × (read_list opened-text list-room parts-room ≡ list_of (0 ∷ 0 ∷ 0 ∷ 1 ∷ 1 ∷ 0 ∷ []) ++ (9 ∷ 9 ∷ 9 ∷ 9 ∷ []))
    × (read_parts opened-text list-room parts-room ≡ 9 ∷ 9 ∷ 9 ∷ 9 ∷ [])
unfolding computing
opened = (refl, refl, refl)

-- 2 2 2 LF 2 2 1 LF 2 1 2 LF
abbrev both-in-its-part-text : List ℕ
both-in-its-part-text = integer_line ++ (50 ∷ 32 ∷ 50 ∷ 32 ∷ 50 ∷ 10 ∷ 50 ∷ 32 ∷ 50 ∷ 32 ∷ 49 ∷ 10 ∷ 50 ∷ 32 ∷ 49 ∷ 32 ∷ 50 ∷ 10 ∷ [])

-- both nonzeros of an entry are in its part
both_in_its_part :
    (read_call both-in-its-part-text list-room parts-room ≡ read_as 2 2 3 true)
    × (read_list both-in-its-part-text list-room parts-room ≡ list_of (0 ∷ 1 ∷ 1 ∷ 0 ∷ 1 ∷ 1 ∷ []) ++ (9 ∷ 9 ∷ 9 ∷ 9 ∷ []))
    × (read_parts both-in-its-part-text list-room parts-room ≡ 1 ∷ 1 ∷ 0 ∷ 9 ∷ [])
unfolding computing
both_in_its_part = (refl, refl, refl)

-- 2 2 2 LF 2 2 0 LF 1 1 -1.5e+3 LF
abbrev valued-text : List ℕ
valued-text = real_line ++ (50 ∷ 32 ∷ 50 ∷ 32 ∷ 50 ∷ 10 ∷ 50 ∷ 32 ∷ 50 ∷ 32 ∷ 48 ∷ 10 ∷ 49 ∷ 32 ∷ 49 ∷ 32 ∷ 45 ∷ 49 ∷ 46 ∷ 53 ∷ 101 ∷ 43 ∷ 51 ∷ 10 ∷ [])

-- values are skipped, and one of 0 is a nonzero
valued :
    (read_call valued-text list-room parts-room ≡ read_as 2 2 2 false)
    × (read_list valued-text list-room parts-room ≡ list_of (0 ∷ 0 ∷ 1 ∷ 1 ∷ []) ++ (9 ∷ 9 ∷ 9 ∷ 9 ∷ 9 ∷ 9 ∷ 9 ∷ 9 ∷ []))
    × (read_parts valued-text list-room parts-room ≡ 9 ∷ 9 ∷ 9 ∷ 9 ∷ [])
unfolding computing
valued = (refl, refl, refl)

-- 2 2 1 LF 2 1 .5 LF
abbrev valued-opened-text : List ℕ
valued-opened-text = both_line ++ (50 ∷ 32 ∷ 50 ∷ 32 ∷ 49 ∷ 10 ∷ 50 ∷ 32 ∷ 49 ∷ 32 ∷ 46 ∷ 53 ∷ 10 ∷ [])

-- symmetric with real values
valued-opened :
    (read_call valued-opened-text list-room parts-room ≡ read_as 2 2 2 false)
    × (read_list valued-opened-text list-room parts-room ≡ list_of (0 ∷ 1 ∷ 1 ∷ 0 ∷ []) ++ (9 ∷ 9 ∷ 9 ∷ 9 ∷ 9 ∷ 9 ∷ 9 ∷ 9 ∷ []))
    × (read_parts valued-opened-text list-room parts-room ≡ 9 ∷ 9 ∷ 9 ∷ 9 ∷ [])
unfolding computing
valued-opened = (refl, refl, refl)

-- 2 3 0 LF
abbrev not-square-text : List ℕ
not-square-text = pattern_line ++ (50 ∷ 32 ∷ 51 ∷ 32 ∷ 48 ∷ 10 ∷ [])

-- 15: at the size line
not_square : read_call not-square-text list-room parts-room ≡ refused NotSquare 51
unfolding computing
not_square = refl

-- 0 3 0 LF
abbrev no_rows-text : List ℕ
no_rows-text = pattern_line ++ (48 ∷ 32 ∷ 51 ∷ 32 ∷ 48 ∷ 10 ∷ [])

-- 4 for m and n before 15
no_rows : read_call no_rows-text list-room parts-room ≡ refused TooBig 51
unfolding computing
no_rows = refl

-- 2 2 1 LF 1 2 LF
abbrev above-text : List ℕ
above-text = pattern_line ++ (50 ∷ 32 ∷ 50 ∷ 32 ∷ 49 ∷ 10 ∷ 49 ∷ 32 ∷ 50 ∷ 10 ∷ [])

-- 16: at the entry
above : read_call above-text list-room parts-room ≡ refused AboveDiagonal 57
unfolding computing
above = refl

-- 2 2 1 LF 1 3 LF
abbrev off-and-above-text : List ℕ
off-and-above-text = pattern_line ++ (50 ∷ 32 ∷ 50 ∷ 32 ∷ 49 ∷ 10 ∷ 49 ∷ 32 ∷ 51 ∷ 10 ∷ [])

-- 5 before 16
off_and-above : read_call off-and-above-text list-room parts-room ≡ refused OffMatrix 57
unfolding computing
off_and-above = refl

-- 2 2 1 LF 1 2 3 LF
abbrev above-and-no-part-text : List ℕ
above-and-no-part-text = integer_line ++ (50 ∷ 32 ∷ 50 ∷ 32 ∷ 49 ∷ 10 ∷ 49 ∷ 32 ∷ 50 ∷ 32 ∷ 51 ∷ 10 ∷ [])

-- 16 before 8
above-and_no_part : read_call above-and-no-part-text list-room parts-room ≡ refused AboveDiagonal 57
unfolding computing
above-and_no_part = refl

-- 2 2 2 LF 2 1 LF 2 1 LF
abbrev again-text : List ℕ
again-text = pattern_line ++ (50 ∷ 32 ∷ 50 ∷ 32 ∷ 50 ∷ 10 ∷ 50 ∷ 32 ∷ 49 ∷ 10 ∷ 50 ∷ 32 ∷ 49 ∷ 10 ∷ [])

-- 6: the same entry twice
again : read_call again-text list-room parts-room ≡ refused Repeated 61
unfolding computing
again = refl

-- 2 2 2 LF 2 1 LF 1 2 LF
abbrev mirrored-text : List ℕ
mirrored-text = pattern_line ++ (50 ∷ 32 ∷ 50 ∷ 32 ∷ 50 ∷ 10 ∷ 50 ∷ 32 ∷ 49 ∷ 10 ∷ 49 ∷ 32 ∷ 50 ∷ 10 ∷ [])

-- 16 for the other nonzero of an entry
mirrored : read_call mirrored-text list-room parts-room ≡ refused AboveDiagonal 61
unfolding computing
mirrored = refl

-- 1 1 999999999 LF 1 1 LF
abbrev large-count-text : List ℕ
large-count-text = pattern_line ++ (49 ∷ 32 ∷ 49 ∷ 32 ∷ 57 ∷ 57 ∷ 57 ∷ 57 ∷ 57 ∷ 57 ∷ 57 ∷ 57 ∷ 57 ∷ 10 ∷ 49 ∷ 32 ∷ 49 ∷ 10 ∷ [])

-- 7: the count has no range of its own
large_count : read_call large-count-text list-room parts-room ≡ refused Count 69
unfolding computing
large_count = refl

-- 2 2 1 LF 2 1 LF
abbrev short-list-text : List ℕ
short-list-text = pattern_line ++ (50 ∷ 32 ∷ 50 ∷ 32 ∷ 49 ∷ 10 ∷ 50 ∷ 32 ∷ 49 ∷ 10 ∷ [])

-- 9 by the opened N
short_list : read_call short-list-text (9 ∷ 9 ∷ 9 ∷ []) [] ≡ refused ShortBuffer 0
unfolding computing
short_list = refl

-- 2 2 2 LF 2 1 LF
abbrev short-after-count-text : List ℕ
short-after-count-text = pattern_line ++ (50 ∷ 32 ∷ 50 ∷ 32 ∷ 50 ∷ 10 ∷ 50 ∷ 32 ∷ 49 ∷ 10 ∷ [])

-- 7 before 9
short-after-count : read_call short-after-count-text [] [] ≡ refused Count 61
unfolding computing
short-after-count = refl

-- 1 1 1 LF 1 1 1e LF
abbrev no-exponent-text : List ℕ
no-exponent-text = real_line ++ (49 ∷ 32 ∷ 49 ∷ 32 ∷ 49 ∷ 10 ∷ 49 ∷ 32 ∷ 49 ∷ 32 ∷ 49 ∷ 101 ∷ 10 ∷ [])

-- 3: a digit stands after an e
no_exponent : read_call no-exponent-text list-room parts-room ≡ refused EntryForm 52
unfolding computing
no_exponent = refl

-- 1 1 1 LF 1 1 LF
abbrev no_value-text : List ℕ
no_value-text = real_line ++ (49 ∷ 32 ∷ 49 ∷ 32 ∷ 49 ∷ 10 ∷ 49 ∷ 32 ∷ 49 ∷ 10 ∷ [])

-- 3: a value is missing
no_value : read_call no_value-text list-room parts-room ≡ refused EntryForm 52
unfolding computing
no_value = refl

-- %%MatrixMarket matrix coordinate pattern skew-symmetric LF 1 1 0 LF
abbrev skew-text : List ℕ
skew-text = 37 ∷ 37 ∷ 77 ∷ 97 ∷ 116 ∷ 114 ∷ 105 ∷ 120 ∷ 77 ∷ 97 ∷ 114 ∷ 107 ∷ 101 ∷ 116 ∷ 32 ∷ 109 ∷ 97 ∷ 116 ∷ 114 ∷ 105 ∷ 120 ∷ 32 ∷ 99 ∷ 111 ∷ 111 ∷ 114 ∷ 100 ∷ 105 ∷ 110 ∷ 97 ∷ 116 ∷ 101 ∷ 32 ∷ 112 ∷ 97 ∷ 116 ∷ 116 ∷ 101 ∷ 114 ∷ 110 ∷ 32 ∷ 115 ∷ 107 ∷ 101 ∷ 119 ∷ 45 ∷ 115 ∷ 121 ∷ 109 ∷ 109 ∷ 101 ∷ 116 ∷ 114 ∷ 105 ∷ 99 ∷ 10 ∷ 49 ∷ 32 ∷ 49 ∷ 32 ∷ 48 ∷ 10 ∷ []

-- 1: another symmetry
skew : read_call skew-text list-room parts-room ≡ refused Banner 0
unfolding computing
skew = refl

-- a symmetric pattern text of 300 rows and columns, with its size line at 51
abbrev wide_header : Header
wide_header =
    record {
      fine = true;
      field = Pattern;
      symmetric = true;
      sized = true;
      m = 300;
      n = 300;
      entries = 2001;
      at = 51;
      next = 64;
    }

-- 4 for the opened N, at the size line, before 9
opened_limit : (opened_verdict wide_header 4000 16000 0 ≡ accepted) × (opened_verdict wide_header 4001 0 0 ≡ refused TooBig 51)
unfolding computing
opened_limit = (refl, refl)
