-- The arm on one operation, by computation: a reason for each line of the arm, and each opcode kept.
use Rattle.std.specs.Prelude.{Ok, Err}
use Prim.Native.Nat.{ℕ, ◌+◌, ◌-◌, ◌^◌}
use mathlib.Core.Path.{◌≡◌, refl}
use mathlib.Core.List.{List, [], ◌∷◌, ◌++◌}
use lib.ListN.{length, replicate}
use Rattle.arith.specs.Signed.{signed_of}
use Rattle.names.specs.Names.{operand_segment_sizes, mode, memory_ordering_semantics, memory_scope, integer_form, integers_form, bools_form}
use Rattle.tables.specs.Layout.{opcode_in, result_types_span_in, result_types_in, operands_span_in, operands_in, attributes_span_in, attributes_in, name_in, attribute_form_in, numbers_span_in, numbers_in, value_type_in, form_in, kind_in, pointer_in, padded_in, sparse_in, rank_in, dims_in}
use Rattle.tables.specs.Sheet.{mode_mask_in, tile_flag_in, tile_through_in}
use Rattle.tables.specs.Tables.{lent}
use Rattle.tiles.specs.Kind.{I32, I64, F32, is_integer}
use Rattle.tiles.specs.Tile.{no_tile, eight_of, cells_of, row_tile, seen_in, tile_in, view_in, dims_of, rank_of, dim_of, is_tile, is_number, scalar_of, has_kind, is_integers}
use Rattle.tiles.specs.Shape.{eq_z, all_pairs, same_dim, same_rank, same_shape}
use Rattle.tiles.specs.Rules.{is_axis_index}
use Rattle.lookups.specs.Lookup.{is_taken, first_in, is_entry, entry_in, integer_in, segments_in, segment_in}
use Rattle.lookups.specs.Typed.{operand_type_in, result_type_in, operand_tile_in, result_tile_in}
use Rattle.lookups.specs.Verdict.{Verdict, fail_if}
use Rattle.rules_view.specs.View.{load_view, store_view, atomic_red_view, view_place, index_start, segment_place, is_other_tile, is_no_reduction, takes_kind, is_mode_wrong, is_count_wrong, is_order_wrong, is_other_kind, index_rule, element_after, is_sparse_axis, value_in, indices_rule, view_by, view_rule, view_arm_in, view_arm}
use Rattle.lookups.specs.declared.Fault.TheVariants.{Broken}

-- a type of this form, kind, pointer attribute, padding, sparse axis and dims
abbrev type : ℕ → ℕ → ℕ → ℕ → ℕ → List ℕ → List ℕ
type form kind pointer padded sparse dims =
    form ∷ kind ∷ pointer ∷ padded ∷ sparse ∷ length dims ∷ 0 ∷ 0 ∷ dims ++ replicate (8 - length dims) 0

-- 0 a partition, 1 a tile that it takes, 2 a single I32, 3 a gather/scatter with sparse axis 0, 4 four I32, 5 a tensor view, 6 a padded
-- partition, 7 a single I64, 8 a partition of two dims, 9 a tile that it takes, 10 a gather/scatter with axis -1, 11 and 12 are 0 and 1
-- with a pointer attribute
abbrev types : List ℕ
types =
    type 4 F32 0 0 0 (4 ∷ [])
    ++ type 1 F32 0 0 0 (4 ∷ [])
    ++ type 1 I32 0 0 0 []
    ++ type 6 F32 0 0 0 (4 ∷ [])
    ++ type 1 I32 0 0 0 (4 ∷ [])
    ++ type 3 F32 0 0 0 (4 ∷ [])
    ++ type 4 F32 0 1 0 (4 ∷ [])
    ++ type 1 I64 0 0 0 []
    ++ type 4 F32 0 0 0 (4 ∷ 4 ∷ [])
    ++ type 1 F32 0 0 0 (4 ∷ 4 ∷ [])
    ++ type 6 F32 0 0 (2 ^ 64 - 1) (4 ∷ [])
    ++ type 4 F32 1 0 0 (4 ∷ [])
    ++ type 1 F32 1 0 0 (4 ∷ [])

-- one value of each type
abbrev value : ℕ → List ℕ
value id = id ∷ 0 ∷ 0 ∷ 0 ∷ []

abbrev values : List ℕ
values =
    value 0 ++ value 1 ++ value 2 ++ value 3 ++ value 4 ++ value 5 ++ value 6 ++ value 7 ++ value 8 ++ value 9 ++ value 10 ++ value 11 ++ value 12

-- an attribute with so many numbers from list entry k on
abbrev attribute : ℕ → ℕ → ℕ → ℕ → List ℕ
attribute name form k count = name ∷ form ∷ k ∷ count ∷ 0 ∷ 0 ∷ 0 ∷ 0 ∷ []

-- mode 3 takes F32; no tile is seen through a pointer attribute
abbrev sheet : List ℕ
sheet = replicate 259 0 ++ (256 ∷ replicate 60 0)

-- the answer for this opcode, form of sizes and count of indices, mode, first so many of ordering and scope, result type and operands
abbrev answer : ℕ → ℕ → ℕ → ℕ → ℕ → ℕ → ℕ → ℕ → List ℕ → Verdict
answer code sizes indices m given ordering scope result operands =
    view_arm sheet
    (lent types values
    (code ∷ 6 ∷ 1 ∷ 7 ∷ length operands ∷ 0 ∷ 0 ∷ 0 ∷ (2 + given) ∷ replicate 7 0)
    (attribute operand_segment_sizes sizes 0 3 ++ attribute mode integer_form 3 1 ++ attribute memory_ordering_semantics integer_form 4 1 ++ attribute memory_scope integer_form 5 1)
    [] [] []
    (1 ∷ indices ∷ indices ∷ m ∷ ordering ∷ scope ∷ result ∷ operands)
    (record { types = 13; values = 13; operations = 1; attributes = 4; blocks = 0; regions = 0; functions = 0 }))
    0

-- a load without ordering or scope
abbrev load : ℕ → List ℕ → Verdict
load result operands = answer load_view integers_form 1 0 0 0 0 result operands

-- a load and a store at operand 2, with as many of ordering and scope
abbrev load_by : ℕ → ℕ → ℕ → Verdict
load_by given ordering scope = answer load_view integers_form 1 0 given ordering scope 1 (0 ∷ 2 ∷ [])

abbrev store_by : ℕ → ℕ → ℕ → Verdict
store_by given ordering scope = answer store_view integers_form 1 0 given ordering scope 0 (1 ∷ 0 ∷ 2 ∷ [])

-- a reduction by this mode, ordering and scope into this view
abbrev reduce : ℕ → ℕ → ℕ → ℕ → Verdict
reduce m ordering scope view = answer atomic_red_view integers_form 1 m 2 ordering scope 0 (view ∷ 2 ∷ 1 ∷ [])

pub kept :
    (load 1 (0 ∷ 2 ∷ [])
    ∷ load 1 (3 ∷ 4 ∷ [])  -- a sparse index
    ∷ load 1 (11 ∷ 2 ∷ [])  -- a view is seen through a pointer attribute
    ∷ answer load_view integers_form 2 0 0 0 0 9 (8 ∷ 2 ∷ 2 ∷ [])
    ∷ load_by 2 2 2  -- acquire
    ∷ store_by 0 0 0
    ∷ store_by 2 3 0  -- release
    ∷ reduce 3 1 1 0
    ∷ [])
    ≡ replicate 8 (Ok tt)
unfolding opcode_in result_types_span_in result_types_in operands_span_in operands_in attributes_span_in attributes_in name_in attribute_form_in numbers_span_in numbers_in value_type_in form_in kind_in pointer_in padded_in sparse_in rank_in dims_in mode_mask_in tile_flag_in tile_through_in no_tile eight_of cells_of row_tile seen_in tile_in view_in dims_of rank_of dim_of is_tile is_number scalar_of has_kind is_integers is_integer eq_z all_pairs same_dim same_rank same_shape is_axis_index is_taken first_in is_entry entry_in integer_in segments_in segment_in operand_type_in result_type_in operand_tile_in result_tile_in fail_if view_place index_start segment_place is_other_tile is_no_reduction takes_kind is_mode_wrong is_count_wrong is_order_wrong is_other_kind index_rule element_after is_sparse_axis value_in indices_rule view_by view_rule view_arm_in signed_of
kept = refl

pub refused :
    (load 1 []
    ∷ load 1 (5 ∷ 2 ∷ [])
    ∷ load 0 (0 ∷ 2 ∷ [])
    ∷ load 12 (0 ∷ 2 ∷ [])  -- a tile is not seen through one
    ∷ load 2 (0 ∷ 2 ∷ [])
    ∷ reduce 3 1 1 3
    ∷ reduce 3 1 1 10  -- axis -1 is still sparse
    ∷ reduce 3 1 1 6
    ∷ reduce 9 1 1 0
    ∷ reduce 2 1 1 0  -- the sheet gives mode 2 no kind
    ∷ reduce 16 1 1 0
    ∷ answer load_view integers_form 2 0 0 0 0 1 (0 ∷ 2 ∷ [])
    ∷ answer load_view bools_form 1 0 0 0 0 1 (0 ∷ 2 ∷ [])  -- found as bools, which count nothing
    ∷ load 1 (0 ∷ [])
    ∷ load 1 (0 ∷ 0 ∷ [])
    ∷ load 1 (0 ∷ 1 ∷ [])
    ∷ load 1 (3 ∷ 2 ∷ [])
    ∷ load 1 (0 ∷ 4 ∷ [])
    ∷ load 1 (10 ∷ 4 ∷ [])  -- -1 fits no axis, so the index is a dense one
    ∷ answer load_view integers_form 2 0 0 0 0 9 (8 ∷ 2 ∷ 7 ∷ [])
    ∷ load_by 2 3 0
    ∷ store_by 2 2 0
    ∷ reduce 3 1 2 0
    ∷ load_by 2 0 0  -- weak, with a scope
    ∷ load_by 1 1 0  -- relaxed, without one
    ∷ load_by 2 (2 ^ 64 - 1) 0
    ∷ [])
    ≡ (Err (Broken 1) ∷ Err (Broken 2) ∷ Err (Broken 3) ∷ Err (Broken 3) ∷ Err (Broken 4) ∷ Err (Broken 5) ∷ Err (Broken 5) ∷ Err (Broken 5) ∷ Err (Broken 5) ∷ Err (Broken 6) ∷ Err (Broken 6) ∷ Err (Broken 7) ∷ Err (Broken 7) ∷ Err (Broken 8) ∷ Err (Broken 8) ∷ Err (Broken 9) ∷ Err (Broken 10) ∷ Err (Broken 11) ∷ Err (Broken 11) ∷ Err (Broken 12) ∷ replicate 6 (Err (Broken 13)))
unfolding opcode_in result_types_span_in result_types_in operands_span_in operands_in attributes_span_in attributes_in name_in attribute_form_in numbers_span_in numbers_in value_type_in form_in kind_in pointer_in padded_in sparse_in rank_in dims_in mode_mask_in tile_flag_in tile_through_in no_tile eight_of cells_of row_tile seen_in tile_in view_in dims_of rank_of dim_of is_tile is_number scalar_of has_kind is_integers is_integer eq_z all_pairs same_dim same_rank same_shape is_axis_index is_taken first_in is_entry entry_in integer_in segments_in segment_in operand_type_in result_type_in operand_tile_in result_tile_in fail_if view_place index_start segment_place is_other_tile is_no_reduction takes_kind is_mode_wrong is_count_wrong is_order_wrong is_other_kind index_rule element_after is_sparse_axis value_in indices_rule view_by view_rule view_arm_in signed_of
refused = refl
