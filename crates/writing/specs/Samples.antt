-- Worked samples of the writer: document 01's text with both caps and its rest, read back, and refusals.
-- Assumes nothing.
use Rattle.std.specs.Prelude.{Ok, true, List, [], ◌∷◌, ◌++◌, ◌≡◌, refl, ℕ, length, replicate}
use Rattle.counting.specs.Tests.{◌and◌, ◌or◌, pick}
use Rattle.model.specs.declared.Word.TheVariants.{OffMatrix, BadPart, ShortBuffer, Order, SplitNumber}
use Rattle.model.specs.Refusal.{refused, each_verdict}
use Rattle.model.specs.Pattern.{low_in, high_in, number_in, row_in, column_in, list_of}
use Rattle.model.specs.Calls.{outside, sizes_verdict, rises, split_number, off_matrix, entry_verdict}
use Rattle.pattern.specs.Measures.{part_verdict}
use Rattle.texts.specs.Reading.{read_as}
use Rattle.texts.specs.Reading.{read_call, read_list, read_parts}
use Rattle.texts.specs.Computing.{computing}
use Rattle.writing.specs.declared.Figures.{Figures}
use Rattle.writing.specs.Written.{decimals, number_text, figure_text, caps_text, figures_text, ending_text, comment_text, sizes_text, entry_text, entries_text, head_text, body_text, text_of}
use Rattle.writing.specs.Lines.{none_text}
use Rattle.writing.specs.Writing.{nonzero_verdict, write_verdict, length_answer, text_out, out_written, write_call, write_out, write_reply}

-- to unfold this is to unfold every definition that a writing computes with
calling : Type 0
unfolding write_call write_out write_verdict nonzero_verdict length_answer text_out out_written text_of head_text body_text entries_text entry_text sizes_text comment_text ending_text figures_text caps_text figure_text number_text decimals each_verdict part_verdict entry_verdict split_number off_matrix rises low_in high_in number_in row_in column_in sizes_verdict outside ◌and◌ ◌or◌ pick
calling = Unit

-- the 2 by 2 diagonal, with its nonzeros in different parts, and the figures of document 01's sample
abbrev diagonal : List ℕ
diagonal = list_of (0 ∷ 0 ∷ 1 ∷ 1 ∷ [])

abbrev apart : List ℕ
apart = 0 ∷ 1 ∷ []

abbrev figures : Figures
figures = record { volume = 0; cap0 = 1; cap1 = 1; rest = 0; tries = 11; floor = 0; complete = 1 }

-- the text that document 01 prints, with both caps and rest 0
abbrev printed : List ℕ
printed = 37 ∷ 37 ∷ 77 ∷ 97 ∷ 116 ∷ 114 ∷ 105 ∷ 120 ∷ 77 ∷ 97 ∷ 114 ∷ 107 ∷ 101 ∷ 116 ∷ 32 ∷ 109 ∷ 97 ∷ 116 ∷ 114 ∷ 105 ∷ 120 ∷ 32 ∷ 99 ∷ 111 ∷ 111 ∷ 114 ∷ 100 ∷ 105 ∷ 110 ∷ 97 ∷ 116 ∷ 101 ∷ 32 ∷ 105 ∷ 110 ∷ 116 ∷ 101 ∷ 103 ∷ 101 ∷ 114 ∷ 32 ∷ 103 ∷ 101 ∷ 110 ∷ 101 ∷ 114 ∷ 97 ∷ 108 ∷ 10 ∷ 37 ∷ 32 ∷ 118 ∷ 111 ∷ 108 ∷ 117 ∷ 109 ∷ 101 ∷ 32 ∷ 48 ∷ 32 ∷ 99 ∷ 97 ∷ 112 ∷ 115 ∷ 32 ∷ 49 ∷ 32 ∷ 49 ∷ 32 ∷ 114 ∷ 101 ∷ 115 ∷ 116 ∷ 32 ∷ 48 ∷ 32 ∷ 116 ∷ 114 ∷ 105 ∷ 101 ∷ 115 ∷ 32 ∷ 49 ∷ 49 ∷ 32 ∷ 102 ∷ 108 ∷ 111 ∷ 111 ∷ 114 ∷ 32 ∷ 48 ∷ 32 ∷ 99 ∷ 111 ∷ 109 ∷ 112 ∷ 108 ∷ 101 ∷ 116 ∷ 101 ∷ 10 ∷ 50 ∷ 32 ∷ 50 ∷ 32 ∷ 50 ∷ 10 ∷ 49 ∷ 32 ∷ 49 ∷ 32 ∷ 49 ∷ 10 ∷ 50 ∷ 32 ∷ 50 ∷ 32 ∷ 50 ∷ 10 ∷ []

-- an output with a byte more than the text takes
abbrev paper : List ℕ
paper = replicate 121 7

written : write_call 2 2 2 diagonal apart figures paper ≡ Ok 120
unfolding calling
written = refl

-- bytes past the text stay
written_out : write_out 2 2 2 diagonal apart figures paper ≡ printed ++ (7 ∷ [])
unfolding calling
written_out = refl

-- it is read back
back : read_call printed diagonal apart ≡ read_as 2 2 2 true
unfolding computing
back = refl

back-list : read_list printed (replicate 8 9) (replicate 2 9) ≡ diagonal
unfolding computing
back-list = refl

back_parts : read_parts printed (replicate 8 9) (replicate 2 9) ≡ apart
unfolding computing
back_parts = refl

-- rows and columns past a byte: (255, 256) and (256, 299), written "256 257 1" and "257 300 2"
far_written : body_text 300 300 2 (list_of (255 ∷ 256 ∷ 256 ∷ 299 ∷ [])) apart ≡ 51 ∷ 48 ∷ 48 ∷ 32 ∷ 51 ∷ 48 ∷ 48 ∷ 32 ∷ 50 ∷ 10 ∷ 50 ∷ 53 ∷ 54 ∷ 32 ∷ 50 ∷ 53 ∷ 55 ∷ 32 ∷ 49 ∷ 10 ∷ 50 ∷ 53 ∷ 55 ∷ 32 ∷ 51 ∷ 48 ∷ 48 ∷ 32 ∷ 50 ∷ 10 ∷ []
unfolding calling
far_written = refl

-- "none yet" with the caps and rest of 233 nonzeros at 3 percent
none_yet : none_text 120 120 51 0 0 ≡ 110 ∷ 111 ∷ 110 ∷ 101 ∷ 32 ∷ 121 ∷ 101 ∷ 116 ∷ 32 ∷ 99 ∷ 97 ∷ 112 ∷ 115 ∷ 32 ∷ 49 ∷ 50 ∷ 48 ∷ 32 ∷ 49 ∷ 50 ∷ 48 ∷ 32 ∷ 114 ∷ 101 ∷ 115 ∷ 116 ∷ 32 ∷ 53 ∷ 49 ∷ 32 ∷ 116 ∷ 114 ∷ 105 ∷ 101 ∷ 115 ∷ 32 ∷ 48 ∷ 32 ∷ 102 ∷ 108 ∷ 111 ∷ 111 ∷ 114 ∷ 32 ∷ 48 ∷ 10 ∷ []
unfolding none_text figures_text caps_text figure_text number_text decimals pick
none_yet = refl

-- 0 is one digit, a number that ends in zeros has each of them, and the largest figure has twenty digits
shortest : decimals 20 0 ≡ 48 ∷ []
unfolding decimals pick
shortest = refl

with_zeros : decimals 20 1_000 ≡ 49 ∷ 48 ∷ 48 ∷ 48 ∷ []
unfolding decimals pick
with_zeros = refl

longest : length (number_text 18_446_744_073_709_551_615 32) ≡ 21
unfolding number_text decimals pick
longest = refl

-- 9 for the output comes last
no_room : write_call 2 2 2 diagonal apart figures (7 ∷ []) ≡ refused ShortBuffer 0
unfolding calling
no_room = refl

-- 17 of a nonzero comes before its 5, 10 and 8: (0, 512) in a 2 by 2 matrix, after (1, 0), with part byte 2
split-first : write_call 2 2 2 (list_of (1 ∷ 0 ∷ 0 ∷ 512 ∷ [])) (0 ∷ 2 ∷ []) figures [] ≡ refused SplitNumber 1
unfolding calling
split-first = refl

-- a row of 512 is a split number too, and 511 is outside alone, which comes before 8
split_row : write_call 2 2 1 (list_of (512 ∷ 0 ∷ [])) (2 ∷ []) figures [] ≡ refused SplitNumber 0
unfolding calling
split_row = refl

off_first : write_call 2 2 1 (list_of (511 ∷ 511 ∷ [])) (2 ∷ []) figures [] ≡ refused OffMatrix 0
unfolding calling
off_first = refl

-- 8 of a nonzero comes before 17 and 10 of the next
part_first : write_call 2 2 2 (list_of (0 ∷ 1 ∷ 0 ∷ 512 ∷ [])) (2 ∷ 0 ∷ []) figures [] ≡ refused BadPart 0
unfolding calling
part_first = refl

part_before_order : write_call 2 2 2 (list_of (0 ∷ 1 ∷ 0 ∷ 0 ∷ [])) (2 ∷ 0 ∷ []) figures [] ≡ refused BadPart 0
unfolding calling
part_before_order = refl

unsorted : write_call 2 2 2 (list_of (0 ∷ 1 ∷ 0 ∷ 0 ∷ [])) (1 ∷ 2 ∷ []) figures [] ≡ refused Order 1
unfolding calling
unsorted = refl

-- 9 for the parts, and for a list under four bytes an entry, comes before the checks of the nonzeros
short_parts : write_call 2 2 2 (list_of (5 ∷ 5 ∷ 5 ∷ 5 ∷ [])) (1 ∷ []) figures [] ≡ refused ShortBuffer 0
unfolding calling
short_parts = refl

short_list : write_call 2 2 2 (replicate 7 5) apart figures [] ≡ refused ShortBuffer 0
unfolding calling
short_list = refl

-- what a writing replies in numbers: the text's length
written_reply : write_reply (Ok 120) ≡ record { number = 0; place = 0; values = 120 ∷ [] }
written_reply = refl

unsorted_reply : write_reply (refused Order 1) ≡ record { number = 10; place = 1; values = [] }
unsorted_reply = refl
