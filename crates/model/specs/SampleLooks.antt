-- Searches worked out by hand, closed by computation: they pin the order of the search, what is a look, and the mates that it leaves.
-- Assumes nothing.
use Rattle.std.specs.Prelude.{List, [], ◌∷◌, ◌≡◌, refl, ℕ, get_or}
use Rattle.counting.specs.Tests.{◌and◌, ◌or◌, pick, bit}
use Rattle.counting.specs.Sums.{sum, any}
use Rattle.model.specs.Pattern.{Pattern, low_in, high_in, number_in, row_in, column_in, list_of, pattern_of, lines, row_line, column_line, on}
use Rattle.model.specs.Marking.{Marking, takes, touched, condition_for, condition}
use Rattle.model.specs.Bound.{says_leaning, leans, conflict, most_chosen, L4}
use Rattle.model.specs.Matching.{looked, else_go, columns_where, conflict_of, conflict_columns, through, with_column, with_mate, hand_over, column_step, column_within, start_from, counted, starts_from, matching_search, looks, conflicts, conflict_rows}

-- the conflict columns of each row
abbrev columns_of : List (List ℕ) → ℕ → List ℕ
columns_of rows i = get_or rows i []

-- the pattern with rows ##a, #.a, bb. (counted from 0: row 2 marked 1 takes the b, column 2 marked 0 takes the a): rows 0 and 1 lean to 0,
-- columns 0 and 1 lean to 1, and the # are conflicts
abbrev crossed : Pattern
crossed = pattern_of 3 3 7 (list_of (0 ∷ 0 ∷ 0 ∷ 1 ∷ 0 ∷ 2 ∷ 1 ∷ 0 ∷ 1 ∷ 2 ∷ 2 ∷ 0 ∷ 2 ∷ 1 ∷ []))

abbrev crossed_marking : Marking
crossed_marking l = get_or (3 ∷ 3 ∷ 1 ∷ 3 ∷ 3 ∷ 0 ∷ []) l 3

pub record SampleLooks : Type 0 where
  -- two rows want column 0 alone. The first gets it: one look. The second meets it, and the first row meets it again: two looks
  pub both_want_one :
      (starts_from (columns_of ((0 ∷ []) ∷ (0 ∷ []) ∷ [])) 1 2).looks ≡ 3
  -- row 0 could have columns 0 and 1, row 1 column 0 alone. Row 0 gets column 0: one look. Row 1 meets column 0, whose row 0 meets column 0
  -- again and then column 1, which is unmatched: three looks, and an augmenting path of three conflicts
  pub path_of_three_size : (starts_from (columns_of ((0 ∷ 1 ∷ []) ∷ (0 ∷ []) ∷ [])) 2 2).size ≡ 2
  pub path_of_three : (starts_from (columns_of ((0 ∷ 1 ∷ []) ∷ (0 ∷ []) ∷ [])) 2 2).looks ≡ 4
  pub path_of_three_first : (starts_from (columns_of ((0 ∷ 1 ∷ []) ∷ (0 ∷ []) ∷ [])) 2 2).mate 0 ≡ 2
  pub path_of_three_second : (starts_from (columns_of ((0 ∷ 1 ∷ []) ∷ (0 ∷ []) ∷ [])) 2 2).mate 1 ≡ 1
  -- rows 0, 1 and 2 could have columns 0 and 1, columns 1 and 2, column 0. Rows 0 and 1 get columns 0 and 1: two looks. Row 2 meets column 0;
  -- row 0 meets columns 0 (again) and 1; row 1 meets columns 1 (again) and 2, which is unmatched: five looks, a path of five conflicts
  pub path_of_five_size : (starts_from (columns_of ((0 ∷ 1 ∷ []) ∷ (1 ∷ 2 ∷ []) ∷ (0 ∷ []) ∷ [])) 3 3).size ≡ 3
  pub path_of_five : (starts_from (columns_of ((0 ∷ 1 ∷ []) ∷ (1 ∷ 2 ∷ []) ∷ (0 ∷ []) ∷ [])) 3 3).looks ≡ 7
  -- three rows with both columns. Four looks give column 1 to row 0 and column 0 to row 1. Row 2 meets column 0; row 1 meets columns 0
  -- (again) and 1; row 0 meets both (again); then row 2 meets column 1 (again): six looks, and the start fails
  pub three_for_two_size : (starts_from (columns_of ((0 ∷ 1 ∷ []) ∷ (0 ∷ 1 ∷ []) ∷ (0 ∷ 1 ∷ []) ∷ [])) 2 3).size ≡ 2
  pub three_for_two : (starts_from (columns_of ((0 ∷ 1 ∷ []) ∷ (0 ∷ 1 ∷ []) ∷ (0 ∷ 1 ∷ []) ∷ [])) 2 3).looks ≡ 10
  -- rows 0, 1 and 2 could have column 0, columns 0 and 1, column 1. Row 0 gets column 0: one look. Row 1 meets column 0, whose row 0 meets it
  -- again, and gets column 1: three looks. Row 2 meets column 1; row 1 meets column 0; row 0 meets it again; row 1 meets column 1 again: four
  -- looks, and the start fails. From the last row up there would be six looks
  pub rows_ascending_size : (starts_from (columns_of ((0 ∷ []) ∷ (0 ∷ 1 ∷ []) ∷ (1 ∷ []) ∷ [])) 2 3).size ≡ 2
  pub rows_ascending : (starts_from (columns_of ((0 ∷ []) ∷ (0 ∷ 1 ∷ []) ∷ (1 ∷ []) ∷ [])) 2 3).looks ≡ 8
  -- a row without conflicts makes no look, and columns are taken in ascending order
  pub row_without : (starts_from (columns_of ([] ∷ (1 ∷ 2 ∷ []) ∷ [])) 3 2).looks ≡ 1
  pub row_without_mate : (starts_from (columns_of ([] ∷ (1 ∷ 2 ∷ []) ∷ [])) 3 2).mate 1 ≡ 2
  -- the pattern with three conflicts in two rows: the path of three
  pub crossed_size : (matching_search crossed crossed_marking).size ≡ 2
  pub crossed_L4 : L4 crossed crossed_marking ≡ 2
  pub crossed_looks : looks crossed crossed_marking ≡ 4
  pub crossed_conflicts : conflicts crossed crossed_marking ≡ 3
  pub crossed_rows : conflict_rows crossed crossed_marking ≡ 2

pub sample_looks : SampleLooks
unfolding ◌and◌ ◌or◌ pick bit sum any low_in high_in number_in row_in column_in pattern_of lines row_line column_line on takes touched condition_for condition says_leaning leans conflict most_chosen L4 looked else_go columns_where conflict_of conflict_columns through with_column with_mate hand_over column_step column_within start_from counted starts_from matching_search looks conflicts conflict_rows
sample_looks =
    record {
      both_want_one = refl;
      path_of_three_size = refl;
      path_of_three = refl;
      path_of_three_first = refl;
      path_of_three_second = refl;
      path_of_five_size = refl;
      path_of_five = refl;
      three_for_two_size = refl;
      three_for_two = refl;
      rows_ascending_size = refl;
      rows_ascending = refl;
      row_without = refl;
      row_without_mate = refl;
      crossed_size = refl;
      crossed_L4 = refl;
      crossed_looks = refl;
      crossed_conflicts = refl;
      crossed_rows = refl;
    }
