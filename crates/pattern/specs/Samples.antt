-- Worked samples of the answers on parts, volume and load.
-- Assumes nothing.
use Rattle.std.specs.Prelude.{List, [], ◌∷◌, ◌≡◌, refl, ℕ, Ok}
use Rattle.counting.specs.Tests.{◌and◌, ◌or◌, pick, bit}
use Rattle.counting.specs.Sums.{sum, any}
use Rattle.model.specs.declared.Part.TheVariants.{One}
use Rattle.model.specs.declared.Word.TheVariants.{BadPart, ShortBuffer, Order}
use Rattle.model.specs.Refusal.{accepted, refused, each_verdict}
use Rattle.model.specs.Pattern.{high_in, low_in, number_in, row_in, column_in, list_of, pattern_of, lines, row_line, column_line, on, line_count, nonempty, line_total}
use Rattle.model.specs.Split.{holds, parts_on, volume, load}
use Rattle.model.specs.Calls.{outside, sizes_verdict, rises, split_number, off_matrix, entry_verdict, list_verdict}
use Rattle.pattern.specs.Splits.{split_of}
use Rattle.pattern.specs.Measures.{part_verdict, parts_verdict, measure_verdict, volume_call, load_call}

-- the 2 by 2 matrix without its last nonzero: (0, 0), (0, 1), (1, 0)
abbrev corner : List ℕ
corner = list_of (0 ∷ 0 ∷ 0 ∷ 1 ∷ 1 ∷ 0 ∷ [])

-- the first byte above 1 is refused, with its nonzero's number
first_bad_part : parts_verdict 3 (0 ∷ 2 ∷ 3 ∷ []) ≡ refused BadPart 1
unfolding parts_verdict part_verdict each_verdict
first_bad_part = refl

-- bytes past the nonzeros are not looked at
past_the_nonzeros : parts_verdict 2 (0 ∷ 1 ∷ 7 ∷ []) ≡ accepted
unfolding parts_verdict part_verdict each_verdict
past_the_nonzeros = refl

too_few_parts : parts_verdict 3 (0 ∷ 2 ∷ []) ≡ refused ShortBuffer 0
unfolding parts_verdict
too_few_parts = refl

-- row 0 is cut, and column 0 is not
one_cut : volume_call 2 2 3 corner (0 ∷ 1 ∷ 0 ∷ []) ≡ Ok 1
unfolding volume_call measure_verdict parts_verdict part_verdict each_verdict split_of list_verdict sizes_verdict outside split_number off_matrix entry_verdict rises low_in high_in number_in row_in column_in pattern_of lines row_line column_line on line_count nonempty line_total holds parts_on volume sum any ◌and◌ ◌or◌ pick bit
one_cut = refl

-- row 0 and column 0 are cut
two_cut : volume_call 2 2 3 corner (0 ∷ 1 ∷ 1 ∷ []) ≡ Ok 2
unfolding volume_call measure_verdict parts_verdict part_verdict each_verdict split_of list_verdict sizes_verdict outside split_number off_matrix entry_verdict rises low_in high_in number_in row_in column_in pattern_of lines row_line column_line on line_count nonempty line_total holds parts_on volume sum any ◌and◌ ◌or◌ pick bit
two_cut = refl

-- the list's checks come before those of the parts
list-first : volume_call 2 2 3 (list_of (0 ∷ 1 ∷ 0 ∷ 0 ∷ 1 ∷ 0 ∷ [])) [] ≡ refused Order 1
unfolding volume_call measure_verdict parts_verdict list_verdict sizes_verdict outside each_verdict split_number off_matrix entry_verdict rises low_in high_in number_in row_in column_in ◌and◌ ◌or◌
list-first = refl

load_of-one : load_call 2 2 3 corner (0 ∷ 1 ∷ 1 ∷ []) One ≡ Ok 2
unfolding load_call measure_verdict parts_verdict part_verdict each_verdict split_of list_verdict sizes_verdict outside split_number off_matrix entry_verdict rises low_in high_in number_in row_in column_in pattern_of load sum ◌and◌ ◌or◌ pick bit
load_of-one = refl
