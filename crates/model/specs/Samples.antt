-- Document 01, 'Sample patterns', with the caps of document 02's requests 2 and 5: those marked P as theorems about the definitions, under a
-- single conjunction, and beside them the patterns on which the shortcuts give a false minimum. All are closed by computation.
-- Assumes nothing.
use Rattle.std.specs.Prelude.{Bool, true, false, List, [], ◌∷◌, ◌≡◌, refl, ℕ, zero, suc, ◌+◌, ◌-◌, ◌^◌, min, eqb, leb, get_or, replicate}
use Rattle.counting.specs.Tests.{◌and◌, ◌or◌, pick, bit}
use Rattle.counting.specs.Sums.{sum, any}
use Rattle.std.specs.Prelude.{Ok}
use Rattle.model.specs.declared.Part.{Part}
use Rattle.model.specs.declared.Part.TheVariants.{Zero, One}
use Rattle.model.specs.declared.Caps.{Caps}
use Rattle.model.specs.declared.Word.TheVariants.{TooBig, OffMatrix, ShortBuffer, Order, Cap, NoSplit, Budget, State, SplitNumber}
use Rattle.model.specs.declared.Search.{Search}
use Rattle.model.specs.declared.Ran.{Ran}
use Rattle.model.specs.declared.Ended.TheVariants.{Complete, Stopped}
use Rattle.model.specs.declared.Shown.{Shown}
use Rattle.model.specs.declared.Shown.TheVariants.{NoneYet}
use Rattle.model.specs.declared.Shown.TheVariants as showing
use Rattle.model.specs.Pattern.{Pattern, low_in, high_in, number_in, row_in, column_in, list_of, pattern_of, lines, row_line, column_line, on, line_count, nonempty, line_total}
use Rattle.model.specs.Split.{Split, holds, is_cut, parts_on, volume, load, caps_of, both_caps, unequal, caps_outside, ceiling_half, cap_hundredths, cap_from_percent, rest_from_percent}
use Rattle.model.specs.Marking.{Marking, precedes, place, mark_at, marking, takes, taken, valid, touched, condition_for, condition}
use Rattle.model.specs.Bound.{says_leaning, leans, L1, L2, L3, L4, untaken, at_stake, untaken_on, falling, leaning_counts, strikes, struck, conflict, most_chosen, bound}
use Rattle.model.specs.Matching.{columns_where, conflict_of, conflict_columns, looked, else_go, through, with_column, with_mate, hand_over, column_step, column_within, start_from, counted, starts_from, matching_search, looks}
use Rattle.model.specs.Walk.{Record, rules_of, fresh, fresh_of, gives_part, one_allowed, after_zero, advance, cuts, is_empty, tried, improved, looks_at, stands, outcome, try_once, step, walk, walked, put_later, beginnings_later, open_markings, least_bound, floor, filled, shown_split}
use Rattle.model.specs.Refusal.{accepted, refused, refusal_code, verdict_reply, reply_code, verdict_code, each_verdict}
use Rattle.model.specs.State.{no_record, stack, marks_in, best_in, record_of, array_of, trail_of, is_found, best_or, search_of, are_marks, ones_allowed, beginnings_valid, trail_fine, best_fine, counts_fine, state_fine}
use Rattle.model.specs.Calls.{outside, sizes_verdict, rises, split_number, off_matrix, entry_verdict, list_verdict, open_verdict, run_verdict, show_verdict, cap_verdict, cap_call, open_call, opened_search, ended, ran_record, ran_after, run_call, shown_from, shown, part_bytes, shown_parts, shown_after, parts_after, show_call, show_parts, complete_number, cap_reply, run_reply, show_reply, capped, ended_reply, shows_reply}

-- part p for nonzero t, and another split's parts for the others
unfoldable pub with_part : Split → ℕ → Part → Split
with_part σ t p s = pick (eqb s t) p (σ s)

-- a split meets the caps
unfoldable pub meets : Pattern → Caps → Split → Bool
meets P caps σ = leb (load P σ Zero) caps.cap0 and leb (load P σ One) caps.cap1

-- the least volume among the splits that meet the caps, by going through every split of the first nonzeros; more than all lines if there is none
unfoldable pub least_among : Pattern → Caps → ℕ → Split → ℕ
least_among P caps zero σ = pick (meets P caps σ) (volume P σ) (lines P + 1)
least_among P caps (suc t) σ =
    min (least_among P caps t (with_part σ t Zero)) (least_among P caps t (with_part σ t One))

-- least volume of a pattern under its caps
unfoldable pub least_volume : Pattern → Caps → ℕ
least_volume P caps = least_among P caps P.size (λ t. Zero)

-- the number of splits of the first nonzeros that meet the caps
unfoldable pub meeting_among : Pattern → Caps → ℕ → Split → ℕ
meeting_among P caps zero σ = bit (meets P caps σ)
meeting_among P caps (suc t) σ =
    meeting_among P caps t (with_part σ t Zero) + meeting_among P caps t (with_part σ t One)

-- the number of splits that meet the caps
unfoldable pub meeting : Pattern → Caps → ℕ
meeting P caps = meeting_among P caps P.size (λ t. Zero)

-- how the walk stands after so many tries, or fewer if it is complete: complete or not, its tries, and what it shows
unfoldable pub stands_at : Pattern → Caps → ℕ → Bool × ℕ × Shown
stands_at P caps tries =
    let r = walked P caps tries in
    (r.complete, r.tries, shown P r.caps r.best (floor (rules_of P r.caps) r))

-- the walk stands so after so many tries
abbrev pub Stands : Pattern → Caps → ℕ → Bool → ℕ → Shown → Type 0
Stands P caps after complete tries shows =
    ◌≡◌ {A = Bool × ℕ × Shown} (stands_at P caps after) (complete, tries, shows)

-- the parts that the walk shows after so many tries
unfoldable pub shows_parts : Pattern → Caps → ℕ → List ℕ
shows_parts P caps tries = shown_parts P caps (walked P caps tries).best (replicate P.size 7)

-- one nonzero, 1 by 1
abbrev pub single : Pattern
single = pattern_of 1 1 1 (list_of (0 ∷ 0 ∷ []))

-- the 2 by 2 diagonal
abbrev pub diagonal_list : List ℕ
diagonal_list = list_of (0 ∷ 0 ∷ 1 ∷ 1 ∷ [])

abbrev pub diagonal : Pattern
diagonal = pattern_of 2 2 2 diagonal_list

-- full 2 by 2
abbrev pub full_two : Pattern
full_two = pattern_of 2 2 4 (list_of (0 ∷ 0 ∷ 0 ∷ 1 ∷ 1 ∷ 0 ∷ 1 ∷ 1 ∷ []))

-- full 1 by 3
abbrev pub full_row_list : List ℕ
full_row_list = list_of (0 ∷ 0 ∷ 0 ∷ 1 ∷ 0 ∷ 2 ∷ [])

abbrev pub full_row : Pattern
full_row = pattern_of 1 3 3 full_row_list

-- a row of three and a nonzero of its own row and column
abbrev pub three_and_one : Pattern
three_and_one = pattern_of 2 4 4 (list_of (0 ∷ 0 ∷ 0 ∷ 1 ∷ 0 ∷ 2 ∷ 1 ∷ 3 ∷ []))

-- counted from 1: (1,1), (1,2), (2,2)
abbrev pub corner : Pattern
corner = pattern_of 2 2 3 (list_of (0 ∷ 0 ∷ 0 ∷ 1 ∷ 1 ∷ 1 ∷ []))

-- 2 by 3 without nonzeros
abbrev pub blank : Pattern
blank = pattern_of 2 3 0 []

-- counting a nonzero twice in s finds 2 here
abbrev pub counted_twice : Pattern
counted_twice = pattern_of 3 4 8 (list_of (0 ∷ 2 ∷ 0 ∷ 3 ∷ 1 ∷ 1 ∷ 1 ∷ 2 ∷ 1 ∷ 3 ∷ 2 ∷ 0 ∷ 2 ∷ 2 ∷ 2 ∷ 3 ∷ []))

-- adding L3 to L4 finds 3 here
abbrev pub added_bounds : Pattern
added_bounds = pattern_of 4 4 9 (list_of (0 ∷ 2 ∷ 1 ∷ 2 ∷ 1 ∷ 3 ∷ 2 ∷ 1 ∷ 2 ∷ 2 ∷ 2 ∷ 3 ∷ 3 ∷ 0 ∷ 3 ∷ 1 ∷ 3 ∷ 3 ∷ []))

-- holding free nonzeros against part 0 finds 3 here
abbrev pub held_against : Pattern
held_against = pattern_of 3 3 6 (list_of (0 ∷ 2 ∷ 1 ∷ 0 ∷ 1 ∷ 1 ∷ 2 ∷ 0 ∷ 2 ∷ 1 ∷ 2 ∷ 2 ∷ []))

-- full 1 by 2: never trying the first line as cut finds no split here
abbrev pub never_cut : Pattern
never_cut = pattern_of 1 2 2 (list_of (0 ∷ 0 ∷ 0 ∷ 1 ∷ []))

-- the corner's marking: column 1 is marked 0, row 2 is marked 1
abbrev pub corner_marking : Marking
corner_marking l = get_or (3 ∷ 1 ∷ 0 ∷ 3 ∷ []) l 3

-- to unfold this is to unfold every definition that a sample computes with
computing : Type 0
unfolding ◌and◌ ◌or◌ pick bit sum any low_in high_in number_in row_in column_in pattern_of lines row_line column_line on line_count nonempty line_total holds is_cut parts_on volume load unequal caps_outside ceiling_half cap_hundredths cap_from_percent rest_from_percent precedes place mark_at marking takes taken valid touched condition_for condition says_leaning leans L1 L2 L3 L4 untaken at_stake untaken_on falling leaning_counts strikes struck conflict most_chosen bound columns_where conflict_of conflict_columns looked else_go through with_column with_mate hand_over column_step column_within start_from counted starts_from matching_search looks rules_of fresh gives_part one_allowed after_zero advance cuts is_empty tried improved looks_at stands outcome try_once step walk put_later beginnings_later open_markings least_bound floor filled shown_split refusal_code reply_code verdict_code stack marks_in best_in record_of array_of trail_of is_found best_or search_of are_marks ones_allowed beginnings_valid trail_fine best_fine counts_fine state_fine outside sizes_verdict rises split_number off_matrix entry_verdict each_verdict list_verdict open_verdict run_verdict show_verdict cap_verdict cap_call fresh_of open_call ended ran_record ran_after run_call shown_from shown part_bytes shown_parts shown_after parts_after show_call show_parts complete_number with_part meets least_among least_volume meeting_among meeting walked stands_at shows_parts ended_reply shows_reply
computing = Unit

-- the samples marked P
pub record Samples : Type 0 where
  -- cap from N and e
  pub cap_4_0 : cap_from_percent 4 0 ≡ 2
  pub cap_233_3 : cap_from_percent 233 3 ≡ 120
  pub cap_1_0 : cap_from_percent 1 0 ≡ 1
  pub cap_3_0 : cap_from_percent 3 0 ≡ 2
  -- one nonzero, 1 by 1, cap 1: volume 0, 5 tries; cap 0: refusal 12
  pub single_ends : Stands single (both_caps 1) 100 true 5 (showing.Split 0 0)
  pub single_refused : verdict_code (open_verdict 1 1 1 (list_of (0 ∷ 0 ∷ [])) (both_caps 0)) ≡ 12
  -- the 2 by 2 diagonal, cap 1: volume 0, 11 tries; after 3 tries none yet, floor 0
  pub diagonal_ends : Stands diagonal (both_caps 1) 100 true 11 (showing.Split 0 0)
  pub diagonal_none_yet : Stands diagonal (both_caps 1) 3 false 3 (NoneYet 0)
  -- full 2 by 2, cap 2: fresh floor 1; least volume 2
  pub full_two_floor : floor (rules_of full_two (both_caps 2)) (fresh_of full_two (both_caps 2)) ≡ 1
  pub full_two_least : least_volume full_two (both_caps 2) ≡ 2
  pub full_two_ends : Stands full_two (both_caps 2) 100 true 13 (showing.Split 2 2)
  -- full 1 by 3, cap 2: least volume 1; cap 1: refusal 12
  pub full_row_least : least_volume full_row (both_caps 2) ≡ 1
  pub full_row_ends : Stands full_row (both_caps 2) 100 true 10 (showing.Split 1 1)
  pub full_row_refused : verdict_code (open_verdict 1 3 3 full_row_list (both_caps 1)) ≡ 12
  -- counted from 1, nonzeros (1,1), (1,2), (2,2), cap 2, column 1 marked 0, row 2 marked 1: L3 0, L4 1
  pub corner_L3 : L3 corner (both_caps 2) corner_marking ≡ 0
  pub corner_L4 : L4 corner corner_marking ≡ 1
  -- 2 by 3 without nonzeros, cap 0: volume 0, 0 tries, complete
  pub blank_ends : Stands blank (both_caps 0) 100 true 0 (showing.Split 0 0)

pub samples : Samples
unfolding computing
samples =
    record {
      cap_4_0 = refl;
      cap_233_3 = refl;
      cap_1_0 = refl;
      cap_3_0 = refl;
      single_ends = refl;
      single_refused = refl;
      diagonal_ends = refl;
      diagonal_none_yet = refl;
      full_two_floor = refl;
      full_two_least = refl;
      full_two_ends = refl;
      full_row_least = refl;
      full_row_ends = refl;
      full_row_refused = refl;
      corner_L3 = refl;
      corner_L4 = refl;
      blank_ends = refl;
    }

-- splits shown, part by part
pub record ShownSplits : Type 0 where
  -- taken nonzeros go to their part, and ties in the order of lines go to the lower line
  pub diagonal_parts : shows_parts diagonal (both_caps 1) 11 ≡ 0 ∷ 1 ∷ []
  pub full_row_parts : shows_parts full_row (both_caps 2) 10 ≡ 0 ∷ 0 ∷ 1 ∷ []
  -- nonzeros that are not taken fill part 0 first
  pub free_parts : part_bytes (shown_from full_row (both_caps 2) (2 ∷ 2 ∷ 2 ∷ 2 ∷ [])) 3 (7 ∷ 7 ∷ 7 ∷ 7 ∷ []) ≡ 0 ∷ 0 ∷ 1 ∷ 7 ∷ []

pub shown_splits : ShownSplits
unfolding computing
shown_splits =
    record {
      diagonal_parts = refl;
      full_row_parts = refl;
      free_parts = refl;
    }

-- the patterns on which a shortcut gives a false minimum: their least volumes, which the complete walk shows
pub record Witnesses : Type 0 where
  -- cap 7: least volume 1
  pub counted_twice_least : least_volume counted_twice (both_caps 7) ≡ 1
  pub counted_twice_ends : Stands counted_twice (both_caps 7) 38 true 38 (showing.Split 1 1)
  -- cap 5: least volume 2
  pub added_bounds_least : least_volume added_bounds (both_caps 5) ≡ 2
  pub added_bounds_ends : Stands added_bounds (both_caps 5) 43 true 43 (showing.Split 2 2)
  -- cap 3: least volume 2
  pub held_against_least : least_volume held_against (both_caps 3) ≡ 2
  pub held_against_ends : Stands held_against (both_caps 3) 31 true 31 (showing.Split 2 2)
  -- cap 1: least volume 1
  pub never_cut_least : least_volume never_cut (both_caps 1) ≡ 1
  pub never_cut_ends : Stands never_cut (both_caps 1) 7 true 7 (showing.Split 1 1)

pub witnesses : Witnesses
unfolding computing
witnesses =
    record {
      counted_twice_least = refl;
      counted_twice_ends = refl;
      added_bounds_least = refl;
      added_bounds_ends = refl;
      held_against_least = refl;
      held_against_ends = refl;
      never_cut_least = refl;
      never_cut_ends = refl;
    }

-- unequal caps
pub record UnequalCaps : Type 0 where
  -- a row of three and one more: with caps 3 and 1 nothing is cut, with equal caps of the same sum one line is
  pub unequal_least : least_volume three_and_one (caps_of 3 1) ≡ 0
  pub equal_least : least_volume three_and_one (both_caps 2) ≡ 1
  pub unequal_ends : Stands three_and_one (caps_of 3 1) 100 true 18 (showing.Split 0 0)
  pub equal_ends : Stands three_and_one (both_caps 2) 100 true 16 (showing.Split 1 1)
  -- caps exchanged: the row, first in order, goes to part 1
  pub exchanged_ends : Stands three_and_one (caps_of 1 3) 100 true 18 (showing.Split 0 0)
  pub exchanged_parts : shows_parts three_and_one (caps_of 1 3) 18 ≡ 1 ∷ 1 ∷ 1 ∷ 0 ∷ []
  -- caps 0 and 3: the only split of a row of three is in part 1, from the first mark on
  pub only_meeting : meeting full_row (caps_of 0 3) ≡ 1
  pub only_ends : Stands full_row (caps_of 0 3) 100 true 12 (showing.Split 0 0)
  pub only_parts : shows_parts full_row (caps_of 0 3) 12 ≡ 1 ∷ 1 ∷ 1 ∷ []
  pub only_first : (walked full_row (caps_of 0 3) 1).trail ≡ 1 ∷ []
  -- with equal caps the first mark other than cut is 0
  pub equal_first : (walked full_row (both_caps 2) 1).trail ≡ 2 ∷ []

pub unequal_caps : UnequalCaps
unfolding computing
unequal_caps =
    record {
      unequal_least = refl;
      equal_least = refl;
      unequal_ends = refl;
      equal_ends = refl;
      exchanged_ends = refl;
      exchanged_parts = refl;
      only_meeting = refl;
      only_ends = refl;
      only_parts = refl;
      only_first = refl;
      equal_first = refl;
    }

-- request 6, rows .##, #.#, ##. and #..: a walk on which it shows whose looks are counted
abbrev pub ring : Pattern
ring = pattern_of 4 3 7 (list_of (0 ∷ 1 ∷ 0 ∷ 2 ∷ 1 ∷ 0 ∷ 1 ∷ 2 ∷ 2 ∷ 0 ∷ 2 ∷ 1 ∷ 3 ∷ 0 ∷ []))

pub record CountedLooks : Type 0 where
  -- the looks of valid trails, standing or not, are 4; with those of a trail that is not valid they would be 5, those of trails that stand are 3
  pub ring_ends : Stands ring (both_caps 4) 100 true 25 (showing.Split 2 2)
  pub ring_looks : (walked ring (both_caps 4) 25).looks ≡ 4
  -- and so they stay
  pub ring_stays : (walked ring (both_caps 4) 26).looks ≡ 4
  -- those after fewer tries
  pub ring_before : (walked ring (both_caps 4) 17).looks ≡ 3

pub counted_looks : CountedLooks
unfolding computing
counted_looks = record { ring_ends = refl; ring_looks = refl; ring_stays = refl; ring_before = refl }

-- the diagonal, opened; run for 3 tries; run for 8 more
abbrev pub opened : Search
opened = opened_search (open_call 2 2 2 diagonal_list (both_caps 1))

abbrev pub begun : Ran
begun = run_call opened 2 2 2 diagonal_list 3

abbrev pub finished : Ran
finished = run_call begun.search 2 2 2 diagonal_list 8

-- the record after 3 tries, with so many tries and looks
abbrev pub counting : ℕ → ℕ → Record
counting tries looks =
    let r = record_of begun.search in
    record {
      m = r.m;
      n = r.n;
      nonzeros = r.nonzeros;
      caps = r.caps;
      tries = tries;
      looks = looks;
      best_count = r.best_count;
      best = r.best;
      complete = r.complete;
      trail = r.trail;
    }

-- what calls answer
pub record CallSamples : Type 0 where
  -- the diagonal by calls, in pieces
  pub begun_stopped : begun.answer ≡ Ok (Stopped 0)
  pub begun_shows : show_call begun.search 2 2 2 diagonal_list (7 ∷ 7 ∷ []) ≡ Ok (NoneYet 0)
  pub begun_parts : show_parts begun.search 2 2 2 diagonal_list (7 ∷ 7 ∷ []) ≡ 7 ∷ 7 ∷ []
  pub finished_complete : finished.answer ≡ Ok (Complete 0)
  pub finished_tries : finished.search.tries ≡ 11
  pub finished_shows : show_call finished.search 2 2 2 diagonal_list (7 ∷ 7 ∷ 7 ∷ []) ≡ Ok (showing.Split 0 0)
  pub finished_parts : show_parts finished.search 2 2 2 diagonal_list (7 ∷ 7 ∷ 7 ∷ []) ≡ 0 ∷ 1 ∷ 7 ∷ []
  -- refusals, in the order of the table
  pub short_parts : show_call finished.search 2 2 2 diagonal_list (7 ∷ []) ≡ refused ShortBuffer 0
  pub no_state : (run_call (search_of no_record) 2 2 2 diagonal_list 3).answer ≡ refused State 0
  pub state_first : (run_call (search_of no_record) 2 2 2 diagonal_list 1000001).answer ≡ refused State 0
  pub budget_taken : run_verdict (record_of opened) 2 2 2 diagonal_list 1000000 ≡ accepted
  pub budget_refused : run_verdict (record_of opened) 2 2 2 diagonal_list 1000001 ≡ refused Budget 0
  -- at most 10^13 tries, and at most tries × m × N looks
  pub tries_taken : run_verdict (counting (10 ^ 13 - 1) 12) 2 2 2 diagonal_list 1 ≡ accepted
  pub tries_spent : run_verdict (counting (10 ^ 13) 12) 2 2 2 diagonal_list 1 ≡ refused Budget 0
  pub tries_refused : run_verdict (counting (10 ^ 13 + 1) 12) 2 2 2 diagonal_list 1 ≡ refused State 0
  pub looks_taken : run_verdict (counting 3 12) 2 2 2 diagonal_list 1 ≡ accepted
  pub looks_refused : run_verdict (counting 3 13) 2 2 2 diagonal_list 1 ≡ refused State 0
  pub no_rows : list_verdict 0 2 2 diagonal_list ≡ refused TooBig 0
  pub rows_taken : sizes_verdict 300 300 4000 ≡ accepted
  pub rows_refused : sizes_verdict 301 300 4000 ≡ refused TooBig 0
  pub columns_refused : sizes_verdict 300 301 4000 ≡ refused TooBig 0
  pub nonzeros_refused : sizes_verdict 300 300 4001 ≡ refused TooBig 0
  pub cells_refused : sizes_verdict 2 2 5 ≡ refused TooBig 0
  -- an entry takes four bytes, row low, row high, column low, column high
  pub short_list : list_verdict 2 2 2 (0 ∷ 0 ∷ 0 ∷ 0 ∷ 1 ∷ 0 ∷ 1 ∷ []) ≡ refused ShortBuffer 0
  pub last_line : row_in (43 ∷ 1 ∷ 44 ∷ 0 ∷ []) 0 ≡ 299
  pub last_line_taken : list_verdict 300 300 1 (43 ∷ 1 ∷ 43 ∷ 1 ∷ []) ≡ accepted
  pub past_last_line : list_verdict 300 300 1 (43 ∷ 1 ∷ 44 ∷ 1 ∷ []) ≡ refused OffMatrix 0
  -- per nonzero 17, 5, 10: 511 is off the matrix, 512 a split number, and each comes before what follows it
  pub off_below_split : list_verdict 300 300 1 (255 ∷ 1 ∷ 0 ∷ 0 ∷ []) ≡ refused OffMatrix 0
  pub split_row : list_verdict 300 300 1 (0 ∷ 2 ∷ 0 ∷ 0 ∷ []) ≡ refused SplitNumber 0
  pub split_column : list_verdict 2 2 2 (list_of (0 ∷ 0 ∷ 1 ∷ 512 ∷ [])) ≡ refused SplitNumber 1
  pub split_before_off : list_verdict 2 2 1 (list_of (2 ∷ 512 ∷ [])) ≡ refused SplitNumber 0
  pub off_before_later_split : list_verdict 2 2 2 (list_of (2 ∷ 0 ∷ 512 ∷ 0 ∷ [])) ≡ refused OffMatrix 0
  pub order_before_later_split : list_verdict 2 2 3 (list_of (1 ∷ 1 ∷ 0 ∷ 0 ∷ 512 ∷ 0 ∷ [])) ≡ refused Order 1
  pub off-matrix : list_verdict 2 2 2 (list_of (0 ∷ 0 ∷ 0 ∷ 2 ∷ [])) ≡ refused OffMatrix 1
  pub out_of_order : list_verdict 2 2 2 (list_of (1 ∷ 1 ∷ 0 ∷ 0 ∷ [])) ≡ refused Order 1
  pub repeated : list_verdict 2 2 2 (list_of (1 ∷ 1 ∷ 1 ∷ 1 ∷ [])) ≡ refused Order 1
  pub cap_0_refused : open_verdict 2 2 2 diagonal_list (caps_of 4001 0) ≡ refused Cap 0
  pub cap_1_refused : open_verdict 2 2 2 diagonal_list (caps_of 0 4001) ≡ refused Cap 0
  pub caps_taken : open_verdict 2 2 2 diagonal_list (caps_of 0 2) ≡ accepted
  pub sum_refused : open_verdict 2 2 2 diagonal_list (caps_of 1 0) ≡ refused NoSplit 0
  pub percent_taken : cap_call 233 3 ≡ capped 120 51
  pub percent_even : cap_call 156 3 ≡ capped 80 34
  pub no_rest : cap_call 4 0 ≡ capped 2 0
  pub most_rest : cap_call 1 99 ≡ capped 1 99
  pub percent_refused : cap_call 233 101 ≡ refused Cap 0
  pub percent_too_big : cap_call 4001 101 ≡ refused TooBig 0
  -- what calls reply in numbers
  pub begun_reply : show_reply (show_call begun.search 2 2 2 diagonal_list (7 ∷ 7 ∷ [])) ≡ record { number = 255; place = 0; values = 0 ∷ [] }
  pub finished_reply : run_reply finished.answer ≡ record { number = 0; place = 0; values = 1 ∷ 0 ∷ [] }
  pub percent_reply : cap_reply (cap_call 233 3) ≡ record { number = 0; place = 0; values = 120 ∷ 51 ∷ [] }
  pub order_reply : verdict_reply (list_verdict 2 2 2 (list_of (1 ∷ 1 ∷ 0 ∷ 0 ∷ []))) ≡ record { number = 10; place = 1; values = [] }
  pub order_code : verdict_code (list_verdict 2 2 2 (list_of (1 ∷ 1 ∷ 0 ∷ 0 ∷ []))) ≡ 266

pub call_samples : CallSamples
unfolding computing
call_samples =
    record {
      begun_stopped = refl;
      begun_shows = refl;
      begun_parts = refl;
      finished_complete = refl;
      finished_tries = refl;
      finished_shows = refl;
      finished_parts = refl;
      short_parts = refl;
      no_state = refl;
      state_first = refl;
      budget_taken = refl;
      budget_refused = refl;
      tries_taken = refl;
      tries_spent = refl;
      tries_refused = refl;
      looks_taken = refl;
      looks_refused = refl;
      no_rows = refl;
      rows_taken = refl;
      rows_refused = refl;
      columns_refused = refl;
      nonzeros_refused = refl;
      cells_refused = refl;
      short_list = refl;
      last_line = refl;
      last_line_taken = refl;
      past_last_line = refl;
      off_below_split = refl;
      split_row = refl;
      split_column = refl;
      split_before_off = refl;
      off_before_later_split = refl;
      order_before_later_split = refl;
      off-matrix = refl;
      out_of_order = refl;
      repeated = refl;
      cap_0_refused = refl;
      cap_1_refused = refl;
      caps_taken = refl;
      sum_refused = refl;
      percent_taken = refl;
      percent_even = refl;
      no_rest = refl;
      most_rest = refl;
      percent_refused = refl;
      percent_too_big = refl;
      begun_reply = refl;
      finished_reply = refl;
      percent_reply = refl;
      order_reply = refl;
      order_code = refl;
    }
