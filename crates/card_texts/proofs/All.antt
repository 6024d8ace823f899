-- Cards 1 to 9 as one statement over the list of them, through tables of full size, by computation. Assumes nothing.
use mathlib.Core.Path.{◌≡◌, refl}
use mathlib.Core.List.{map}
use Rattle.arith.specs.Signed.{signed_of as integer_of, fits_width}
use Rattle.arith.specs.Power.{is_power_of_two, power_below}
use Rattle.names.specs.Names.{names, number_of}
use Rattle.fields.specs.Cut.{on_first, split, nth}
use Rattle.fields.specs.Number.{all_digits, value_after, is_decimal, decimal_of, written, unsigned_of, signed_of}
use Rattle.lines.specs.Field.{list_of}
use Rattle.lines.specs.Line.{header_line, type_line, value_line, operation_line, numbers_of as attribute_numbers, attribute_line, block_line, region_line, function_line}
use Rattle.sheet.specs.Line.{keyed_line, through_line, sheet_line, judged as sheet_judged, stored}
use Rattle.sheet.specs.Sheet.{line_of as sheet_line_of, last_of as sheet_last_of, lines_of as sheet_lines_of, read_sheet}
use Rattle.house.specs.House.{judged, line_of}
use Rattle.module_text.specs.Whole.{room, lines_of, house}
use Rattle.tables.specs.Layout.{opcode_in, result_types_span_in, result_types_in, operands_span_in, operands_in, regions_span_in, regions_in, attributes_span_in, attributes_in, name_in, attribute_form_in, numbers_span_in, numbers_in, absent_in, arguments_span_in, arguments_in, operations_span_in, operations_in, blocks_span_in, blocks_in, functions_in, value_type_in, claim_flag_in, claim_in, form_in, kind_in, pointer_in, padded_in, sparse_in, rank_in, dims_in}
use Rattle.tables.specs.Sheet.{fixed_flag_in, fixed_count_in, mode_mask_in, contained_mask_in, byte_width_in, tile_flag_in, tile_through_in}
use Rattle.tables.specs.Value.{value_of}
use Rattle.requirements.specs.Feature.{features, requirement_of}
use Rattle.requirements.specs.Met.{met_by}
use Rattle.requirements.specs.Target.{targets, target_feature}
use Rattle.requirements.specs.Opcode.{opcodes, opcode_feature}
use Rattle.requirements.specs.Kind.{kinds, kind_feature}
use Rattle.requirements.specs.Attribute.{is_value, has_true, exp_rounded, attribute_feature}
use Rattle.ranges.specs.Entry.{good_type, good_value, good_operation, good_attribute, good_block, good_region}
use Rattle.ranges.specs.Range.{first_bad, table_ranges, good_sheet, sheet_range}
use Rattle.listed.specs.Twice.{lowest_twice, listed_twice}
use Rattle.walk.specs.Depth.{operation_depth, block_depth, region_depth, too_deep}
use Rattle.walk.specs.Order.{operation_order, block_order, region_order, order_to}
use Rattle.values.specs.Twice.{defined_twice, values_twice}
use Rattle.table_checks.specs.Checks.{is_version, target_check, sheet_checks}
use Rattle.nesting.specs.Shape.{operation_visits, block_visits, region_visits, whole_visits, entry_visits, entries_visits}
use Rattle.nesting.specs.Live.{result_values, valued, nesting_of, placed, value_at}
use Rattle.nesting.specs.Dominance.{dominance}
use Rattle.nesting.specs.Numbering.{numbers_at, numbering}
use Rattle.numbering.specs.Alone.{size}
use Rattle.capabilities.specs.Ask.{ask, kind_asked, attribute_asked, operation_asks, capabilities}
use Rattle.tiles.specs.Kind.{is_integer, bits_in}
use Rattle.tiles.specs.Tile.{tile_in, cells_of, row_tile, seen_in, eight_of, dims_of, rank_of, is_tile, is_number, scalar_of, has_kind, is_integers, is_integers_or_pointers}
use Rattle.lookups.specs.Lookup.{is_taken, first_in, is_entry, entry_in, flushes_in}
use Rattle.lookups.specs.Typed.{operand_type_in, operand_tile_in}
use Rattle.lookups.specs.Verdict.{fail_if}
use Rattle.rules_assume.specs.Assume.{has_bit, number_in, is_divisor_wrong, group_rule, div_by_rule, is_outside_width, is_reversed, is_bound_wrong, bounded_rule, attribute_rule, assume_in}
use Rattle.rules_small.specs.Rounding.{flushed}
use Rattle.rules.specs.Operation.{arm_of, arm_rule, verify_operation, rules}
use Rattle.full_check.specs.Full.{parts, refusals, full_check}
use Rattle.text_check.specs.Texts.{in_sheet, checked, texts_check}
use Rattle.card_texts.specs.Cards.{Card, full, said, cards, unread}

pub all_cards : map said cards ≡ map (λ (c : Card). c.says) cards
unfolding full said cards integer_of fits_width is_power_of_two power_below names number_of on_first split nth all_digits value_after
    is_decimal decimal_of written unsigned_of signed_of list_of header_line type_line value_line operation_line attribute_numbers
    attribute_line block_line region_line function_line keyed_line through_line sheet_line sheet_judged stored sheet_line_of sheet_last_of
    sheet_lines_of read_sheet judged line_of room lines_of house opcode_in result_types_span_in result_types_in operands_span_in operands_in
    regions_span_in regions_in attributes_span_in attributes_in name_in attribute_form_in numbers_span_in numbers_in absent_in arguments_span_in
    arguments_in operations_span_in operations_in blocks_span_in blocks_in functions_in value_type_in claim_flag_in claim_in form_in kind_in
    pointer_in padded_in sparse_in rank_in dims_in fixed_flag_in fixed_count_in mode_mask_in contained_mask_in byte_width_in tile_flag_in
    tile_through_in value_of features requirement_of met_by targets target_feature opcodes opcode_feature kinds kind_feature is_value has_true
    exp_rounded attribute_feature good_type good_value good_operation good_attribute good_block good_region first_bad table_ranges good_sheet
    sheet_range lowest_twice listed_twice operation_depth block_depth region_depth too_deep operation_order block_order region_order order_to
    defined_twice values_twice is_version target_check sheet_checks operation_visits block_visits region_visits whole_visits entry_visits
    entries_visits result_values valued nesting_of placed value_at dominance numbers_at numbering size ask kind_asked attribute_asked
    operation_asks capabilities is_integer bits_in tile_in cells_of row_tile seen_in eight_of dims_of rank_of is_tile is_number scalar_of has_kind is_integers
    is_integers_or_pointers is_taken first_in is_entry entry_in flushes_in operand_type_in operand_tile_in fail_if has_bit number_in is_divisor_wrong
    group_rule div_by_rule is_outside_width is_reversed is_bound_wrong bounded_rule attribute_rule assume_in flushed arm_of arm_rule
    verify_operation rules parts refusals full_check in_sheet checked texts_check
all_cards = refl

pub not_read : map said unread ≡ map (λ (c : Card). c.says) unread
unfolding full said unread names number_of on_first split nth all_digits value_after is_decimal decimal_of written unsigned_of signed_of
    list_of header_line keyed_line through_line sheet_line sheet_judged stored sheet_line_of sheet_last_of sheet_lines_of read_sheet judged
    line_of room lines_of house in_sheet checked texts_check
not_read = refl
