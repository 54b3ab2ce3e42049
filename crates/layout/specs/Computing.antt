-- A proof that computes with the definitions says `unfolding computing`: the walks, the layout and the answers then unfold.
use Rattle.layout.specs.Answers.Calls.{reading, unfolded, roomy, asked, written}
use Rattle.layout.specs.Answers.Enums.{checked_of, found_of, headed_of, written_of, indexed_of, hopped_of, unit_in, corners_in}
use Rattle.layout.specs.Answers.Corners.{corners_of}
use Rattle.layout.specs.Answers.Units.{unit_of, number_of}
use Rattle.layout.specs.Answers.Values.{semantic_value}
use Rattle.layout.specs.Hop.{hop_checks, hop_from, start_checks, hop_walk, hop, frame, passed_from, passed}
use Rattle.layout.specs.Index.Blocks.{encode_entry, encode_unsummed, encode_block, encode_blocks, encode_index}
use Rattle.layout.specs.Index.Reading.{entries_from, block_entries, good_block, block_in, blocks_in, entries_in}
use Rattle.layout.specs.Index.Selecting.{index_by, each, selected, picked, entry_rows}
use Rattle.layout.specs.Layout.Cleared.{cleared}
use Rattle.layout.specs.Layout.Encode.{encode_item, encode_text, encode_part, encode_subobject, encode_metric, encode_semantics, encode_header, encode_record}
use Rattle.layout.specs.Layout.Encode.{encode_head, encode_with, sheet_sum, encode}
use Rattle.layout.specs.Layout.Uses.{item_years, record_years, years}
use Rattle.layout.specs.Reading.Items.{item_checks, item_walk}
use Rattle.layout.specs.Reading.Parts.{text_walk, part_walk, subobject_walk, metric_walk}
use Rattle.layout.specs.Reading.Records.{length_checks, mark_checks, header_walk, body_walk, record_with, record_walk}
use Rattle.layout.specs.Reading.Sheets.{size_checks, passport_checks, descriptor_checks, reserved_checks, sheet_walk}
use Rattle.layout.specs.Shared.Carried.{rest_checks, carried_checks}
use Rattle.layout.specs.Shared.Reference.{byte20, byte21, byte22, reference_checks}
use Rattle.layout.specs.Shared.Visibility.{visibility_of}
use Rattle.layout.specs.Writing.Items.{item_rules, take_item}
use Rattle.layout.specs.Writing.Parts.{first_rules, later_rules, element_rules, text_rules, take_part}
use Rattle.layout.specs.Writing.Rows.{room_rules, name_rules, count_rules, row_rules, take_inside, row_walk, end_rules, rows_walk}
use Rattle.layout.specs.Writing.Sheets.{title_rules, head_walk, limit_rules, table_walk}
use Rattle.layout.specs.Writing.Tables.{flatten_header, flatten_part, flatten_item, flatten_record, flatten}

unfoldable pub computing : Unit {0}
unfolding rest_checks carried_checks byte20 byte21 byte22 reference_checks visibility_of item_checks item_walk text_walk part_walk subobject_walk metric_walk
    length_checks mark_checks header_walk body_walk record_with record_walk size_checks passport_checks descriptor_checks reserved_checks sheet_walk encode_item
    encode_text encode_part encode_subobject encode_metric encode_semantics encode_header encode_record encode_head encode_with sheet_sum encode cleared item_years
    record_years years flatten_header flatten_part flatten_item flatten_record flatten item_rules take_item first_rules later_rules element_rules text_rules take_part
    room_rules name_rules count_rules row_rules take_inside row_walk end_rules rows_walk title_rules head_walk limit_rules table_walk reading unfolded roomy asked written
    checked_of found_of headed_of written_of indexed_of unit_in corners_in corners_of unit_of number_of semantic_value encode_entry encode_unsummed encode_block
    encode_blocks encode_index entries_from block_entries good_block block_in blocks_in entries_in index_by each selected picked entry_rows hop_checks hop_from
    start_checks hop_walk hop frame passed_from passed hopped_of
computing = tt
