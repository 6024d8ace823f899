-- Cards 7, 8, 11 and 12 of the paper through the whole of an operation's rules, and the place of the closing rule, by computation on one
-- operation with an operand, a result and an attribute. Assumes nothing.
use Prim.Native.Nat.{ℕ, ◌-◌, ◌^◌}
use mathlib.Core.Path.{◌≡◌, refl}
use mathlib.Core.List.{List, [], ◌∷◌, ◌++◌}
use lib.ListN.{length, replicate}
use Rattle.arith.specs.Signed.{signed_of, fits_width}
use Rattle.arith.specs.Power.{is_power_of_two, power_below}
use Rattle.arith.specs.Product.{held, times_of, times_all, product_of}
use Rattle.names.specs.Names.{flush_to_zero, divisor_form, endpoints_form, bool_form}
use Rattle.tables.specs.Answer.{numbers_of, three, Answer}
use Rattle.tables.specs.Layout.{opcode_in, operands_in, operands_span_in, result_types_in, result_types_span_in, attributes_in, attributes_span_in, value_type_in, form_in, kind_in, pointer_in, rank_in, dims_in, name_in, attribute_form_in, numbers_in, numbers_span_in, absent_in}
use Rattle.tables.specs.Sheet.{byte_width_in, tile_flag_in, tile_through_in}
use Rattle.tables.specs.Tables.{lent}
use Rattle.std.specs.Prelude.{Ok, Err}
use Rattle.tables.specs.declared.Refusal.TheVariants.{RuleBroken, ProductLeaves}
use Rattle.tables.specs.declared.Counts.{Counts}
use Rattle.tiles.specs.Kind.{I1, I4, I8, I64, F32, is_integer, bits_in}
use Rattle.tiles.specs.Tile.{tile_in, cells_of, row_tile, seen_in, eight_of, dims_of, rank_of, is_tile, is_number, scalar_of, has_kind, is_integers, is_integers_or_pointers, same_element}
use Rattle.tiles.specs.Shape.{count_of, eq_z}
use Rattle.tiles.specs.Rules.{is_reshape, is_packable, bit_count_of, is_packed}
use Rattle.lookups.specs.Lookup.{is_taken, first_in, is_entry, entry_in, integer_in, flushes_in}
use Rattle.lookups.specs.Typed.{operand_type_in, operand_tile_in, result_type_in, result_tile_in}
use Rattle.lookups.specs.Verdict.{fail_if, leave_if}
use Rattle.rules_shape.specs.Arm.{is_packing, pack_leaves, valid_in, shaped_in, shape_in}
use Rattle.rules_assume.specs.Assume.{has_bit, number_in, is_divisor_wrong, group_rule, div_by_rule, is_outside_width, is_reversed, is_bound_wrong, bounded_rule, attribute_rule, assume_in}
use Rattle.rules_small.specs.Rounding.{add_f, flushed}
use Rattle.rules.specs.Opcode.{assume, pack, reshape, add_f as add_fcode}
use Rattle.rules.specs.Operation.{arm_of, arm_rule, verify_operation}

-- a type: a tile of this kind with these dims
abbrev tile : ℕ → List ℕ → List ℕ
tile kind ds = (1 ∷ kind ∷ 0 ∷ 0 ∷ 0 ∷ length ds ∷ 0 ∷ 0 ∷ ds) ++ replicate (8 - length ds) 0

-- "Cards 7, 11 and 12 use widths I8 1 and I64 8"
abbrev widths : List ℕ
widths = replicate 290 0 ++ (1 ∷ 0 ∷ 0 ∷ 8 ∷ [])

abbrev counts : Counts
counts = record { types = 2; values = 1; operations = 1; attributes = 1; blocks = 0; regions = 0; functions = 0 }

-- under 13.4, the answer to an opcode with a value of the first type, a result of the second, and an attribute of this name and form,
-- with these of its numbers absent
abbrev said : ℕ → List ℕ → List ℕ → ℕ → ℕ → ℕ → List ℕ → Answer
said code src dst name form absent numbers =
    verify_operation 4 widths
    (lent (src ++ dst) (replicate 4 0) (code ∷ 0 ∷ 1 ∷ 1 ∷ 1 ∷ 0 ∷ 0 ∷ 0 ∷ 1 ∷ replicate 7 0)
    (name ∷ form ∷ 2 ∷ length numbers ∷ absent ∷ 0 ∷ 0 ∷ 0 ∷ []) [] [] [] (1 ∷ 0 ∷ numbers) counts)
    0

-- Assume on a single number of this kind
abbrev assumed : ℕ → ℕ → ℕ → List ℕ → Answer
assumed kind form absent numbers = said assume (tile kind []) (tile kind []) 0 form absent numbers

abbrev bounded : ℕ → ℕ → ℕ → Answer
bounded kind lb ub = assumed kind endpoints_form 0 (lb ∷ ub ∷ [])

abbrev div_by : ℕ → ℕ → Answer
div_by divisor absent = assumed I64 divisor_form absent (divisor ∷ 0 ∷ 0 ∷ [])

-- an opcode from one tile to another, with an attribute that no rule looks up
abbrev shaped : ℕ → List ℕ → List ℕ → Answer
shaped code src dst = said code src dst 0 bool_form 0 (0 ∷ [])

-- an opcode on a single number of this kind, with this flush_to_zero
abbrev flushing : ℕ → ℕ → ℕ → Answer
flushing code kind flag = said code (tile kind []) (tile kind []) flush_to_zero bool_form 0 (flag ∷ [])

abbrev broken : ℕ → Answer
broken reason = Err (RuleBroken 0 reason)

-- 3 AddI has no rule of its own
abbrev add_i : ℕ
add_i = 3

pub cards :
    (bounded I1 (2 ^ 64 - 1) 0  -- card 7: "bounded on I1: -1 to 0 passes"
    ∷ bounded I1 0 1  -- "0 to 1 is reason 8"
    ∷ bounded I64 (2 ^ 63) (2 ^ 63 - 1)  -- "I64 takes its full range"
    ∷ div_by (2 ^ 62) 6  -- card 8: "div_by 2^62 passes"
    ∷ div_by 0 6  -- "0"
    ∷ div_by (2 ^ 63) 6  -- "2^63"
    ∷ div_by 8 4  -- "or every without along is reason 1"
    ∷ shaped pack (tile I4 (8 ∷ [])) (tile I8 (4 ∷ []))  -- card 11: "Pack 8 I4 into 4 I8 passes"
    ∷ shaped pack (tile I1 (4 ∷ [])) (tile I4 (1 ∷ []))  -- "4 I1 into 1 I4 is reason 3"
    ∷ shaped reshape (tile I64 (2 ^ 31 ∷ 2 ^ 31 ∷ [])) (tile I64 (2 ^ 31 ∷ 2 ^ 31 ∷ []))  -- card 12: "has its product"
    ∷ shaped reshape (tile I64 (2 ^ 32 ∷ 2 ^ 31 ∷ [])) (tile I64 (2 ^ 32 ∷ 2 ^ 31 ∷ []))  -- "is code 12"
    ∷ flushing add_i F32 1
    ∷ flushing add_i I64 0
    ∷ flushing add_i I64 1  -- "the closing flush_to_zero rule is 99"
    ∷ flushing add_fcode I64 1  -- no rounding either: the arm answers first
    ∷ [])
    ≡ ((Ok tt) ∷ broken 8 ∷ (Ok tt)
    ∷ (Ok tt) ∷ broken 1 ∷ broken 1 ∷ broken 1
    ∷ (Ok tt) ∷ broken 3
    ∷ (Ok tt) ∷ Err (ProductLeaves 0)
    ∷ (Ok tt) ∷ (Ok tt) ∷ broken 99 ∷ broken 1
    ∷ [])
unfolding verify_operation arm_of arm_rule add_f flushed shape_in shaped_in valid_in pack_leaves is_packing assume_in attribute_rule number_in has_bit div_by_rule is_divisor_wrong group_rule bounded_rule is_bound_wrong is_outside_width is_reversed fail_if leave_if operand_tile_in operand_type_in result_tile_in result_type_in integer_in flushes_in entry_in is_entry is_taken first_in opcode_in operands_in operands_span_in result_types_in result_types_span_in attributes_in attributes_span_in value_type_in form_in kind_in pointer_in rank_in dims_in name_in attribute_form_in numbers_in numbers_span_in absent_in tile_in cells_of row_tile seen_in eight_of dims_of rank_of is_tile is_number scalar_of has_kind is_integers is_integers_or_pointers is_integer same_element tile_through_in tile_flag_in signed_of fits_width is_power_of_two power_below count_of product_of times_all times_of held is_reshape is_packable bit_count_of is_packed bits_in byte_width_in eq_z
cards = refl

-- the numbers of such answers, for operation i
pub broken_numbers : (i reason : ℕ) → numbers_of (RuleBroken i reason) ≡ three 11 i reason
broken_numbers i reason = refl

pub leaves_numbers : (i : ℕ) → numbers_of (ProductLeaves i) ≡ three 12 i 0
leaves_numbers i = refl
