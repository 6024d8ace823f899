-- Cards 7 and 8 of the paper, by computation of the arm: one Assume with one attribute, on a value that is a tile of rank 0.
use Rattle.std.specs.Prelude.{Ok, Err}
use Prim.Native.Nat.{ℕ, ◌-◌, ◌^◌}
use mathlib.Core.Path.{◌≡◌, refl}
use mathlib.Core.List.{List, [], ◌∷◌, ◌++◌}
use lib.ListN.{length, replicate}
use Rattle.arith.specs.Signed.{signed_of, fits_width}
use Rattle.arith.specs.Power.{is_power_of_two, power_below}
use Rattle.names.specs.Names.{divisor_form, endpoints_form}
use Rattle.tables.specs.Layout.{attributes_span_in, attributes_in, attribute_form_in, numbers_span_in, numbers_in, absent_in, operands_span_in, operands_in, value_type_in, form_in, kind_in, pointer_in, rank_in, dims_in}
use Rattle.tables.specs.Sheet.{byte_width_in, tile_flag_in, tile_through_in}
use Rattle.tables.specs.declared.Counts.{Counts}
use Rattle.tiles.specs.Kind.{I1, I8, I16, I64, is_integer, bits_in}
use Rattle.tiles.specs.Tile.{eight_of, cells_of, row_tile, seen_in, tile_in, is_tile, is_number, is_integers, is_integers_or_pointers}
use Rattle.lookups.specs.Typed.{operand_type_in, operand_tile_in}
use Rattle.lookups.specs.Verdict.{Verdict, fail_if}
use Rattle.rules_assume.specs.Assume.{has_bit, number_in, is_divisor_wrong, group_rule, div_by_rule, is_outside_width, is_reversed, is_bound_wrong, bounded_rule, attribute_rule, assume_in}
use Rattle.lookups.specs.declared.Fault.TheVariants.{Broken}

abbrev one_each : Counts
one_each = record { types = 1; values = 1; operations = 1; attributes = 1; blocks = 0; regions = 0; functions = 0 }

-- "Cards 7, 11 and 12 use widths I8 1 and I64 8"
abbrev widths : List ℕ
widths = replicate 288 0 ++ (0 ∷ 0 ∷ 1 ∷ 0 ∷ 0 ∷ 8 ∷ [])

-- what the arm answers for a value of this kind and an attribute of this form, with these numbers and these of them absent
abbrev assumed : ℕ → ℕ → ℕ → List ℕ → Verdict
assumed kind form absent numbers =
    assume_in (1 ∷ kind ∷ replicate 14 0) (0 ∷ 0 ∷ 0 ∷ 0 ∷ [])
    (6 ∷ 0 ∷ 0 ∷ 0 ∷ 1 ∷ 0 ∷ 0 ∷ 0 ∷ 1 ∷ replicate 7 0)
    (0 ∷ form ∷ 1 ∷ length numbers ∷ absent ∷ 0 ∷ 0 ∷ 0 ∷ [])
    (0 ∷ numbers) widths one_each 0

-- the 64 bits of -1
abbrev minus_one : ℕ
minus_one = 2 ^ 64 - 1

abbrev bounded : ℕ → ℕ → ℕ → Verdict
bounded kind lb ub = assumed kind endpoints_form 0 (lb ∷ ub ∷ [])

abbrev div_by : ℕ → ℕ → Verdict
div_by divisor absent = assumed I64 divisor_form absent (divisor ∷ 0 ∷ 0 ∷ [])

-- card 7: "bounded on I1: -1 to 0 passes, 0 to 1 is reason 8; I64 takes its full range"
pub card_7_passes : bounded I1 minus_one 0 ≡ Ok tt
unfolding assume_in operand_type_in operand_tile_in operands_in operands_span_in value_type_in tile_in cells_of row_tile seen_in eight_of form_in kind_in pointer_in rank_in dims_in tile_through_in tile_flag_in attributes_in attributes_span_in attribute_form_in numbers_in numbers_span_in absent_in attribute_rule number_in has_bit fail_if signed_of bounded_rule is_bound_wrong is_outside_width is_reversed fits_width is_integers is_number is_integer bits_in byte_width_in
card_7_passes = refl

pub card_7_reason : bounded I1 0 1 ≡ Err (Broken 8)
unfolding assume_in operand_type_in operand_tile_in operands_in operands_span_in value_type_in tile_in cells_of row_tile seen_in eight_of form_in kind_in pointer_in rank_in dims_in tile_through_in tile_flag_in attributes_in attributes_span_in attribute_form_in numbers_in numbers_span_in absent_in attribute_rule number_in has_bit fail_if signed_of bounded_rule is_bound_wrong is_outside_width is_reversed fits_width is_integers is_number is_integer bits_in byte_width_in
card_7_reason = refl

pub card_7_range : bounded I64 (2 ^ 63) (2 ^ 63 - 1) ≡ Ok tt
unfolding assume_in operand_type_in operand_tile_in operands_in operands_span_in value_type_in tile_in cells_of row_tile seen_in eight_of form_in kind_in pointer_in rank_in dims_in tile_through_in tile_flag_in attributes_in attributes_span_in attribute_form_in numbers_in numbers_span_in absent_in attribute_rule number_in has_bit fail_if signed_of bounded_rule is_bound_wrong is_outside_width is_reversed fits_width is_integers is_number is_integer bits_in byte_width_in
card_7_range = refl

-- and its edges: I8 to 127, endpoints in order, and none that fits 0 bits, which I16 has here
eight_bits : bounded I8 (2 ^ 64 - 128) 127 ≡ Ok tt
unfolding assume_in operand_type_in operand_tile_in operands_in operands_span_in value_type_in tile_in cells_of row_tile seen_in eight_of form_in kind_in pointer_in rank_in dims_in tile_through_in tile_flag_in attributes_in attributes_span_in attribute_form_in numbers_in numbers_span_in absent_in attribute_rule number_in has_bit fail_if signed_of bounded_rule is_bound_wrong is_outside_width is_reversed fits_width is_integers is_number is_integer bits_in byte_width_in
eight_bits = refl

not_eight_bits : bounded I8 0 128 ≡ Err (Broken 8)
unfolding assume_in operand_type_in operand_tile_in operands_in operands_span_in value_type_in tile_in cells_of row_tile seen_in eight_of form_in kind_in pointer_in rank_in dims_in tile_through_in tile_flag_in attributes_in attributes_span_in attribute_form_in numbers_in numbers_span_in absent_in attribute_rule number_in has_bit fail_if signed_of bounded_rule is_bound_wrong is_outside_width is_reversed fits_width is_integers is_number is_integer bits_in byte_width_in
not_eight_bits = refl

not_in_order : bounded I64 0 minus_one ≡ Err (Broken 8)
unfolding assume_in operand_type_in operand_tile_in operands_in operands_span_in value_type_in tile_in cells_of row_tile seen_in eight_of form_in kind_in pointer_in rank_in dims_in tile_through_in tile_flag_in attributes_in attributes_span_in attribute_form_in numbers_in numbers_span_in absent_in attribute_rule number_in has_bit fail_if signed_of bounded_rule is_bound_wrong is_outside_width is_reversed fits_width is_integers is_number is_integer bits_in byte_width_in
not_in_order = refl

no_bits : bounded I16 0 0 ≡ Err (Broken 8)
unfolding assume_in operand_type_in operand_tile_in operands_in operands_span_in value_type_in tile_in cells_of row_tile seen_in eight_of form_in kind_in pointer_in rank_in dims_in tile_through_in tile_flag_in attributes_in attributes_span_in attribute_form_in numbers_in numbers_span_in absent_in attribute_rule number_in has_bit fail_if signed_of bounded_rule is_bound_wrong is_outside_width is_reversed fits_width is_integers is_number is_integer bits_in byte_width_in
no_bits = refl

no_endpoints : assumed I16 endpoints_form 3 (0 ∷ 0 ∷ []) ≡ Ok tt
unfolding assume_in operand_type_in operand_tile_in operands_in operands_span_in value_type_in tile_in cells_of row_tile seen_in eight_of form_in kind_in pointer_in rank_in dims_in tile_through_in tile_flag_in attributes_in attributes_span_in attribute_form_in numbers_in numbers_span_in absent_in attribute_rule number_in has_bit fail_if signed_of bounded_rule is_bound_wrong is_outside_width is_reversed fits_width is_integers is_number is_integer bits_in byte_width_in
no_endpoints = refl

-- card 8: "div_by 2^62 passes; 0, 2^63, or every without along is reason 1"
pub card_8_passes : div_by (2 ^ 62) 6 ≡ Ok tt
unfolding assume_in operand_type_in operand_tile_in operands_in operands_span_in value_type_in tile_in cells_of row_tile seen_in eight_of form_in kind_in pointer_in rank_in dims_in tile_through_in tile_flag_in attributes_in attributes_span_in attribute_form_in numbers_in numbers_span_in absent_in attribute_rule number_in has_bit fail_if signed_of div_by_rule is_divisor_wrong is_power_of_two power_below group_rule is_integers_or_pointers is_tile is_number is_integer
card_8_passes = refl

pub card_8_zero : div_by 0 6 ≡ Err (Broken 1)
unfolding assume_in operand_type_in operand_tile_in operands_in operands_span_in value_type_in tile_in cells_of row_tile seen_in eight_of form_in kind_in pointer_in rank_in dims_in tile_through_in tile_flag_in attributes_in attributes_span_in attribute_form_in numbers_in numbers_span_in absent_in attribute_rule number_in has_bit fail_if signed_of div_by_rule is_divisor_wrong is_power_of_two power_below group_rule is_integers_or_pointers is_tile is_number is_integer
card_8_zero = refl

pub card_8_above : div_by (2 ^ 63) 6 ≡ Err (Broken 1)
unfolding assume_in operand_type_in operand_tile_in operands_in operands_span_in value_type_in tile_in cells_of row_tile seen_in eight_of form_in kind_in pointer_in rank_in dims_in tile_through_in tile_flag_in attributes_in attributes_span_in attribute_form_in numbers_in numbers_span_in absent_in attribute_rule number_in has_bit fail_if signed_of div_by_rule is_divisor_wrong is_power_of_two power_below group_rule is_integers_or_pointers is_tile is_number is_integer
card_8_above = refl

pub card_8_alone : div_by 8 4 ≡ Err (Broken 1)
unfolding assume_in operand_type_in operand_tile_in operands_in operands_span_in value_type_in tile_in cells_of row_tile seen_in eight_of form_in kind_in pointer_in rank_in dims_in tile_through_in tile_flag_in attributes_in attributes_span_in attribute_form_in numbers_in numbers_span_in absent_in attribute_rule number_in has_bit fail_if signed_of div_by_rule is_divisor_wrong is_power_of_two power_below group_rule is_integers_or_pointers is_tile is_number is_integer
card_8_alone = refl
