-- The arm on one operation, by computation: a reason for each line of the arm, and each opcode kept.
use Rattle.std.specs.Prelude.{Ok, Err}
use mathlib.Core.Path.{◌≡◌, refl}
use mathlib.Core.List.{List, [], ◌∷◌, ◌++◌}
use Prim.Native.Nat.{ℕ, ◌-◌, ◌^◌}
use lib.ListN.{length, replicate}
use Rattle.arith.specs.Signed.{signed_of}
use Rattle.names.specs.Names.{mode, memory_ordering_semantics, memory_scope}
use Rattle.tables.specs.Layout.{opcode_in, operands_in, operands_span_in, result_types_in, result_types_span_in, attributes_in, attributes_span_in, value_type_in, form_in, kind_in, pointer_in, rank_in, dims_in, name_in, attribute_form_in, numbers_in, numbers_span_in}
use Rattle.tables.specs.Sheet.{mode_mask_in, byte_width_in}
use Rattle.tables.specs.Tables.{lent}
use Rattle.tables.specs.declared.Counts.{Counts}
use Rattle.tiles.specs.Kind.{I1, I16, I32, bits_in}
use Rattle.tiles.specs.Tile.{no_tile, tile_in, cells_of, row_tile, seen_in, eight_of, dims_of, rank_of, is_tile, is_number, is_pointer, scalar_of, has_kind, points_to, same_element}
use Rattle.tiles.specs.Shape.{eq_z, all_pairs, same_rank, same_shape, same_tile}
use Rattle.tiles.specs.Rules.{atomic_differs, is_word, is_wrong_mask}
use Rattle.lookups.specs.Lookup.{is_taken, first_in, is_entry, entry_in, integer_in}
use Rattle.lookups.specs.Typed.{operand_type_in, operand_tile_in, result_type_in, result_tile_in}
use Rattle.lookups.specs.Verdict.{Verdict, fail_if}
use Rattle.rules_atomic.specs.Arm.{atomic_cas, is_swap, takes_kind, is_mode, is_between, is_bad_swap, is_bad_mode, is_bad_order, any_wrong_mask, mask_start, is_bad_mask, atomic_by, atomic_in, atomic_arm}
use Rattle.lookups.specs.declared.Fault.TheVariants.{Broken}

-- a type of this form and kind, with one dim
abbrev type : ℕ → ℕ → ℕ → List ℕ
type form kind dim = form ∷ kind ∷ 0 ∷ 0 ∷ 0 ∷ 1 ∷ 0 ∷ 0 ∷ dim ∷ replicate 7 0

-- 0 a pointer to I32, 1 an I32, 2 a mask of its shape, 3 a longer mask, 4 a pointer to I16, 5 an I16
abbrev types : List ℕ
types = type 2 I32 4 ++ type 1 I32 4 ++ type 1 I1 4 ++ type 1 I1 8 ++ type 2 I16 4 ++ type 1 I16 4

-- one value of each type
abbrev values : List ℕ
values = (0 ∷ 0 ∷ 0 ∷ 0 ∷ []) ++ (1 ∷ 0 ∷ 0 ∷ 0 ∷ []) ++ (2 ∷ 0 ∷ 0 ∷ 0 ∷ []) ++ (3 ∷ 0 ∷ 0 ∷ 0 ∷ []) ++ (4 ∷ 0 ∷ 0 ∷ 0 ∷ []) ++ (5 ∷ 0 ∷ 0 ∷ 0 ∷ [])

-- an integer attribute, whose number is list entry k
abbrev attribute : ℕ → ℕ → List ℕ
attribute name k = name ∷ 0 ∷ k ∷ 1 ∷ 0 ∷ 0 ∷ 0 ∷ 0 ∷ []

-- mode 3 takes I32; I16 has 2 bytes, I32 has 4
abbrev sheet : List ℕ
sheet = replicate 259 0 ++ (16 ∷ replicate 31 0) ++ (2 ∷ 4 ∷ [])

abbrev counts : Counts
counts = record { types = 6; values = 6; operations = 1; attributes = 3; blocks = 0; regions = 0; functions = 0 }

-- the answer for this opcode, mode, ordering, scope, result type and operands
abbrev answer : ℕ → ℕ → ℕ → ℕ → ℕ → List ℕ → Verdict
answer code m ordering scope result operands =
    atomic_arm sheet
    (lent types values
    (code ∷ 3 ∷ 1 ∷ 4 ∷ length operands ∷ 0 ∷ 0 ∷ 0 ∷ 3 ∷ replicate 7 0)
    (attribute mode 0 ++ attribute memory_ordering_semantics 1 ++ attribute memory_scope 2)
    [] [] []
    (m ∷ ordering ∷ scope ∷ result ∷ operands)
    counts)
    0

abbrev rmw : ℕ → ℕ → ℕ → List ℕ → Verdict
rmw m ordering scope operands = answer 8 m ordering scope 1 operands

abbrev cas : ℕ → List ℕ → Verdict
cas result operands = answer atomic_cas 16 1 0 result operands

pub answers :
    (rmw 3 1 0 (0 ∷ 1 ∷ 2 ∷ [])
    ∷ cas 1 (0 ∷ 1 ∷ 1 ∷ 2 ∷ [])
    ∷ rmw 3 1 0 []
    ∷ rmw 3 1 0 (0 ∷ [])
    ∷ rmw 3 1 0 (0 ∷ 0 ∷ [])
    ∷ rmw 3 1 0 (4 ∷ 1 ∷ [])  -- the pointer is to I16
    ∷ cas 5 (4 ∷ 5 ∷ 5 ∷ [])  -- 16 bits
    ∷ cas 1 (0 ∷ 1 ∷ 2 ∷ [])  -- operand 2 is a mask
    ∷ rmw 2 1 0 (0 ∷ 1 ∷ [])  -- the sheet gives mode 2 no kind
    ∷ rmw 16 1 0 (0 ∷ 1 ∷ [])
    ∷ rmw 3 0 0 (0 ∷ 1 ∷ [])
    ∷ rmw 3 5 0 (0 ∷ 1 ∷ [])
    ∷ rmw 3 4 3 (0 ∷ 1 ∷ [])
    ∷ rmw 3 4 (2 ^ 64 - 1) (0 ∷ 1 ∷ [])
    ∷ rmw 3 4 2 (0 ∷ 1 ∷ 3 ∷ [])  -- the mask is longer than the value
    ∷ [])
    ≡ ((Ok tt) ∷ (Ok tt) ∷ Err (Broken 1) ∷ Err (Broken 2) ∷ Err (Broken 3) ∷ Err (Broken 4) ∷ Err (Broken 5) ∷ Err (Broken 5) ∷ Err (Broken 6) ∷ Err (Broken 6) ∷ Err (Broken 7) ∷ Err (Broken 7) ∷ Err (Broken 7) ∷ Err (Broken 7) ∷ Err (Broken 8) ∷ [])
unfolding opcode_in operands_in operands_span_in result_types_in result_types_span_in attributes_in attributes_span_in value_type_in form_in kind_in pointer_in rank_in dims_in name_in attribute_form_in numbers_in numbers_span_in mode_mask_in byte_width_in bits_in no_tile tile_in cells_of row_tile seen_in eight_of dims_of rank_of is_tile is_number is_pointer scalar_of has_kind points_to same_element eq_z all_pairs same_rank same_shape same_tile atomic_differs is_word is_wrong_mask is_taken first_in is_entry entry_in integer_in operand_type_in operand_tile_in result_type_in result_tile_in fail_if is_swap takes_kind is_mode is_between is_bad_swap is_bad_mode is_bad_order any_wrong_mask mask_start is_bad_mask atomic_by atomic_in signed_of
answers = refl
