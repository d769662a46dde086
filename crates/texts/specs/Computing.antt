-- What a sample of reading computes with.
-- Assumes nothing.
use Rattle.counting.specs.Tests.{◌and◌, ◌or◌, pick, bit}
use Rattle.counting.specs.Sums.{sum}
use Rattle.model.specs.Refusal.{refuse, ◌then◌}
use Rattle.model.specs.Pattern.{with_number, with_entry}
use Rattle.model.specs.Calls.{outside, sizes_verdict}
use Rattle.scanning.specs.Classes.{between, class_of, small_letter, cased, digit_of}
use Rattle.scanning.specs.Checks.{moved}
use Rattle.scanning.specs.Lines.{past, stretches_at, stretch_end, line_stop, has_return, line_end, line_next, empty_line, is_comment, skipped, size_line_at}
use Rattle.scanning.specs.Reals.{past_either, is_exponent, is_real}
use Rattle.scanning.specs.Words.{word_at, spells, same_word, is_number, value_of, number_between, number_value, number_at, ends_at, numbers_at}
use Rattle.texts.specs.Header.{field_at, banner_at, header_of, short, size_line_verdict, room_verdict, square_verdict, head_verdict}
use Rattle.texts.specs.Entries.{entry_at, cell_of, no_cells, is_given, cell_mark, mirror_of, above_diagonal, entry_check, line_verdict, opened, noted, end_verdict, after, entries_from}
use Rattle.texts.specs.Reading.{list_cell, part_cell, listed, parted, given_parts, entries_below, nonzeros_in, opened_verdict, answer_read, output_after, list_given, parts_given, text_verdict, below_verdict, read_verdict, cells_of, read_call, read_list, read_parts}

-- to unfold this is to unfold every definition that a reading computes with
unfoldable pub computing : Type 0
unfolding read_call read_list read_parts cells_of read_verdict below_verdict text_verdict parts_given list_given output_after answer_read opened_verdict nonzeros_in entries_below given_parts parted listed part_cell list_cell entries_from after end_verdict noted opened line_verdict entry_check above_diagonal mirror_of cell_mark is_given no_cells cell_of entry_at head_verdict square_verdict room_verdict size_line_verdict short header_of banner_at field_at numbers_at ends_at number_at number_between number_value value_of is_number same_word spells word_at is_real is_exponent past_either size_line_at skipped is_comment empty_line line_next line_end has_return line_stop stretch_end stretches_at past digit_of cased small_letter class_of between with_entry with_number sizes_verdict outside sum bit pick ◌and◌ ◌or◌
computing = Unit
