-- Case M and cards 5 and 6 of the paper at the level of tables, by computation. Assumes nothing.
use Prim.Native.Nat.{ℕ}
use mathlib.Core.Path.{◌≡◌, refl}
use mathlib.Core.List.{List, [], ◌∷◌}
use Rattle.tables.specs.Layout.{opcode_in, result_types_span_in, result_types_in, operands_span_in, operands_in, regions_span_in, regions_in, attributes_span_in, arguments_span_in, arguments_in, operations_span_in, operations_in, blocks_span_in, blocks_in, functions_in, value_type_in, claim_flag_in, claim_in, form_in, kind_in, pointer_in, padded_in, sparse_in, rank_in, dims_in}
use Rattle.tables.specs.Tables.{Tables, lent}
use Rattle.tables.specs.declared.Counts.{Counts}
use Rattle.std.specs.Prelude.{Ok, Err}
use Rattle.tables.specs.declared.Refusal.TheVariants.{DefinedTwice}
use Rattle.ranges.specs.Entry.{good_type, good_value, good_operation, good_attribute, good_block, good_region}
use Rattle.ranges.specs.Range.{first_bad, table_ranges}
use Rattle.listed.specs.Twice.{lowest_twice, listed_twice}
use Rattle.walk.specs.Depth.{operation_depth, block_depth, region_depth, too_deep}
use Rattle.walk.specs.Order.{operation_order, block_order, region_order, order_to, order}
use Rattle.values.specs.Twice.{defined_twice, values_twice}
use Rattle.table_checks.specs.Checks.{table_checks}

counts : ℕ → Counts
counts functions = record { types = 1; values = 4; operations = 5; attributes = 0; blocks = 2; regions = 2; functions = functions }

types : List ℕ
types = 1 ∷ 4 ∷ 0 ∷ 0 ∷ 18446744073709551615 ∷ 0 ∷ 0 ∷ 0 ∷ 0 ∷ 0 ∷ 0 ∷ 0 ∷ 0 ∷ 0 ∷ 0 ∷ 0 ∷ []

values : List ℕ
values = 0 ∷ 0 ∷ 0 ∷ 0 ∷ 0 ∷ 0 ∷ 0 ∷ 0 ∷ 0 ∷ 1 ∷ 1 ∷ 0 ∷ 0 ∷ 1 ∷ 3 ∷ 0 ∷ []

-- case M, with so many functions
m : ℕ → Tables
m functions =
    lent types values
    (22 ∷ 0 ∷ 0 ∷ 0 ∷ 0 ∷ 0 ∷ 1 ∷ 0 ∷ 0 ∷ 0 ∷ 0 ∷ 0 ∷ 0 ∷ 0 ∷ 0 ∷ 0 ∷ 3 ∷ 1 ∷ 1 ∷ 2 ∷ 2 ∷ 4 ∷ 0 ∷ 0 ∷ 0 ∷ 0 ∷ 0 ∷ 0 ∷ 0 ∷ 0 ∷ 0 ∷ 0 ∷ 38 ∷ 4 ∷ 0 ∷ 4 ∷ 1 ∷ 5 ∷ 1 ∷ 0 ∷ 0 ∷ 0 ∷ 0 ∷ 0 ∷ 0 ∷ 0 ∷ 0 ∷ 0 ∷ 3 ∷ 6 ∷ 1 ∷ 7 ∷ 2 ∷ 9 ∷ 0 ∷ 0 ∷ 0 ∷ 0 ∷ 0 ∷ 0 ∷ 0 ∷ 0 ∷ 0 ∷ 0 ∷ 74 ∷ 9 ∷ 0 ∷ 9 ∷ 1 ∷ 10 ∷ 0 ∷ 0 ∷ 0 ∷ 0 ∷ 0 ∷ 0 ∷ 0 ∷ 0 ∷ 0 ∷ 0 ∷ [])
    []
    (10 ∷ 2 ∷ 12 ∷ 3 ∷ 15 ∷ 0 ∷ 15 ∷ 1 ∷ [])
    (16 ∷ 1 ∷ 17 ∷ 1 ∷ [])
    (0 ∷ [])
    (0 ∷ 0 ∷ 0 ∷ 1 ∷ 2 ∷ 1 ∷ 0 ∷ 2 ∷ 0 ∷ 2 ∷ 0 ∷ 1 ∷ 1 ∷ 2 ∷ 4 ∷ 3 ∷ 0 ∷ 1 ∷ [])
    (counts functions)

-- the same, with value 0 listed twice
twice : Tables
twice =
    lent types values
    (22 ∷ 0 ∷ 0 ∷ 0 ∷ 0 ∷ 0 ∷ 1 ∷ 0 ∷ 0 ∷ 0 ∷ 0 ∷ 0 ∷ 0 ∷ 0 ∷ 0 ∷ 0 ∷ 3 ∷ 1 ∷ 1 ∷ 2 ∷ 2 ∷ 4 ∷ 0 ∷ 0 ∷ 0 ∷ 0 ∷ 0 ∷ 0 ∷ 0 ∷ 0 ∷ 0 ∷ 0 ∷ 38 ∷ 4 ∷ 0 ∷ 4 ∷ 1 ∷ 5 ∷ 1 ∷ 0 ∷ 0 ∷ 0 ∷ 0 ∷ 0 ∷ 0 ∷ 0 ∷ 0 ∷ 0 ∷ 3 ∷ 6 ∷ 1 ∷ 7 ∷ 2 ∷ 9 ∷ 0 ∷ 0 ∷ 0 ∷ 0 ∷ 0 ∷ 0 ∷ 0 ∷ 0 ∷ 0 ∷ 0 ∷ 74 ∷ 9 ∷ 0 ∷ 9 ∷ 1 ∷ 10 ∷ 0 ∷ 0 ∷ 0 ∷ 0 ∷ 0 ∷ 0 ∷ 0 ∷ 0 ∷ 0 ∷ 0 ∷ [])
    []
    (10 ∷ 3 ∷ 13 ∷ 3 ∷ 16 ∷ 0 ∷ 16 ∷ 1 ∷ [])
    (17 ∷ 1 ∷ 18 ∷ 1 ∷ [])
    (0 ∷ [])
    (0 ∷ 0 ∷ 0 ∷ 1 ∷ 2 ∷ 1 ∷ 0 ∷ 2 ∷ 0 ∷ 2 ∷ 0 ∷ 1 ∷ 0 ∷ 1 ∷ 2 ∷ 4 ∷ 3 ∷ 0 ∷ 1 ∷ [])
    (counts 1)

case_m : table_checks (m 1) ≡ Ok tt
unfolding m counts types values opcode_in result_types_span_in result_types_in operands_span_in operands_in regions_span_in regions_in attributes_span_in arguments_span_in arguments_in operations_span_in operations_in blocks_span_in blocks_in functions_in value_type_in claim_flag_in claim_in form_in kind_in pointer_in padded_in sparse_in rank_in dims_in good_type good_value good_operation good_attribute good_block good_region first_bad table_ranges lowest_twice listed_twice operation_depth block_depth region_depth too_deep defined_twice values_twice table_checks
case_m = refl

its_order : order (m 1) ≡ 0 ∷ 1 ∷ 2 ∷ 3 ∷ 4 ∷ []
unfolding m counts types values regions_span_in regions_in operations_span_in operations_in blocks_span_in blocks_in functions_in operation_order block_order region_order order_to
its_order = refl

card_5 : table_checks (m 0) ≡ Ok tt
unfolding m counts types values opcode_in result_types_span_in result_types_in operands_span_in operands_in regions_span_in regions_in attributes_span_in arguments_span_in arguments_in operations_span_in operations_in blocks_span_in blocks_in functions_in value_type_in claim_flag_in claim_in form_in kind_in pointer_in padded_in sparse_in rank_in dims_in good_type good_value good_operation good_attribute good_block good_region first_bad table_ranges lowest_twice listed_twice operation_depth block_depth region_depth too_deep defined_twice values_twice table_checks
card_5 = refl

card_6 : table_checks twice ≡ Err (DefinedTwice 0)
unfolding twice counts types values opcode_in result_types_span_in result_types_in operands_span_in operands_in regions_span_in regions_in attributes_span_in arguments_span_in arguments_in operations_span_in operations_in blocks_span_in blocks_in functions_in value_type_in claim_flag_in claim_in form_in kind_in pointer_in padded_in sparse_in rank_in dims_in good_type good_value good_operation good_attribute good_block good_region first_bad table_ranges lowest_twice listed_twice operation_depth block_depth region_depth too_deep defined_twice values_twice table_checks
card_6 = refl
