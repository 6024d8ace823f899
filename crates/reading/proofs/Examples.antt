-- Small texts that read: code 1, as far as it asks for ids, by computation.
use mathlib.Core.Path.{◌≡◌, refl}
use mathlib.Core.List.{List}
use Prim.Native.Nat.{ℕ}
use lib.ListN.{replicate}
use Rattle.names.specs.Names.{bytes}
use Rattle.fields.specs.Cut.{split, nth, on_first}
use Rattle.fields.specs.Number.{written, decimal_of, is_decimal, all_digits, value_after, unsigned_of, signed_of}
use Rattle.tables.specs.Tables.{lent}
use Rattle.tables.specs.Layout.{opcode_in, result_types_span_in, result_types_in, operands_span_in, operands_in, regions_span_in, regions_in, arguments_span_in, arguments_in, operations_span_in, operations_in, blocks_span_in, blocks_in, functions_in, value_type_in, claim_flag_in, claim_in}
use Rattle.tables.specs.Answer.{Answer}
use Rattle.std.specs.Prelude.{Ok, Err}
use Rattle.tables.specs.declared.Refusal.TheVariants.{OutOfRange}
use Rattle.lines.specs.Field.{list_of}
use Rattle.lines.specs.Line.{header_line, type_line, value_line, operation_line, attribute_line, block_line, region_line, function_line}
use Rattle.house.specs.House.{no_counts, judged, line_of}
use Rattle.module_text.specs.Whole.{fresh, lines_of}
use Rattle.reading.specs.Formed.{id_ranges}

-- from tables with little room, which none of these texts needs more of
asked : List ℕ → Answer
asked text =
    id_ranges
    (lines_of (fresh (lent (replicate 16 0) (replicate 16 0) (replicate 32 0) (replicate 8 0) (replicate 8 0) (replicate 4 0) (replicate 1 0) (replicate 8 0) no_counts))
    (split 10 text)).tables

-- one type, one value of it, claimed of one operation with one result, in one block of one region; a function
all_named : asked (bytes "tile\t1\t4\t100\nT\t1\t4\t0\t0\t-1\t\nV\t0\t0\t0\nO\t3\t0\t0\t\nO\t22\t\t\t0\nB\t\t0\nR\t0\nF\t1\n") ≡ Ok tt
unfolding asked id_ranges split on_first nth lines_of line_of judged written decimal_of is_decimal all_digits value_after unsigned_of signed_of list_of header_line type_line value_line operation_line attribute_line block_line region_line function_line opcode_in result_types_span_in result_types_in operands_span_in operands_in regions_span_in regions_in arguments_span_in arguments_in operations_span_in operations_in blocks_span_in blocks_in functions_in value_type_in claim_flag_in claim_in
all_named = refl

-- an operand that is no value
no_such_value : asked (bytes "tile\t1\t4\t100\nT\t1\t4\t0\t0\t-1\t\nV\t0\t0\t0\nO\t3\t0\t0\t\nO\t22\t\t1\t0\nB\t\t0\nR\t0\nF\t1\n") ≡ Err (OutOfRange 3 1)
unfolding asked id_ranges split on_first nth lines_of line_of judged written decimal_of is_decimal all_digits value_after unsigned_of signed_of list_of header_line type_line value_line operation_line attribute_line block_line region_line function_line opcode_in result_types_span_in result_types_in operands_span_in operands_in regions_span_in regions_in arguments_span_in arguments_in operations_span_in operations_in blocks_span_in blocks_in functions_in value_type_in claim_flag_in claim_in
no_such_value = refl

-- a function of no operation
no_such_operation : asked (bytes "tile\t1\t4\t100\nF\t0\n") ≡ Err (OutOfRange 7 0)
unfolding asked id_ranges split on_first nth lines_of line_of judged written decimal_of is_decimal all_digits value_after unsigned_of signed_of list_of header_line type_line value_line operation_line attribute_line block_line region_line function_line functions_in
no_such_operation = refl
