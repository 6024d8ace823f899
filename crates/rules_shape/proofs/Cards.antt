-- Cards 11 and 12, and where a product of pack is asked, by computation on one operation from a tile to a tile.
use Rattle.std.specs.Prelude.{Ok, Err}
use mathlib.Core.Path.{◌≡◌, refl}
use mathlib.Core.List.{List, [], ◌∷◌, ◌++◌}
use Prim.Native.Nat.{ℕ, ◌-◌, ◌^◌}
use lib.ListN.{length, replicate}
use Rattle.arith.specs.Signed.{signed_of, fits_width}
use Rattle.arith.specs.Product.{held, times_of, times_all, product_of}
use Rattle.tables.specs.Layout.{opcode_in, operands_in, operands_span_in, result_types_in, result_types_span_in, value_type_in, form_in, kind_in, pointer_in, rank_in, dims_in}
use Rattle.tables.specs.Sheet.{byte_width_in}
use Rattle.tables.specs.Tables.{lent}
use Rattle.tables.specs.declared.Counts.{Counts}
use Rattle.tiles.specs.Kind.{I1, I4, I8, I64, bits_in}
use Rattle.tiles.specs.Tile.{tile_in, cells_of, row_tile, seen_in, eight_of, dims_of, rank_of, is_tile, is_number, same_element}
use Rattle.tiles.specs.Shape.{count_of, eq_z}
use Rattle.tiles.specs.Rules.{is_reshape, is_packable, bit_count_of, is_packed}
use Rattle.lookups.specs.Typed.{operand_type_in, operand_tile_in, result_type_in, result_tile_in}
use Rattle.lookups.specs.Verdict.{Verdict, fail_if, leave_if}
use Rattle.rules_shape.specs.Opcode.{pack, reshape}
use Rattle.rules_shape.specs.Arm.{is_packing, pack_leaves, valid_in, shaped_in, shape_in, shape_arm}
use Rattle.lookups.specs.declared.Fault.TheVariants.{Broken, Leaves}

-- a type: a tile of this kind with these dims
abbrev tile : ℕ → List ℕ → List ℕ
tile kind ds = (1 ∷ kind ∷ 0 ∷ 0 ∷ 0 ∷ length ds ∷ 0 ∷ 0 ∷ ds) ++ replicate (8 - length ds) 0

-- widths I8 1 and I64 8
abbrev widths : List ℕ
widths = replicate 290 0 ++ (1 ∷ 0 ∷ 0 ∷ 8 ∷ [])

abbrev counts : Counts
counts = record { types = 2; values = 1; operations = 1; attributes = 0; blocks = 0; regions = 0; functions = 0 }

-- the arm's answer for an operation with a value of the first type as its operand and a result of the second
abbrev answer : ℕ → List ℕ → List ℕ → Verdict
answer code src dst =
    shape_arm widths
    (lent (src ++ dst) (replicate 4 0) (code ∷ 0 ∷ 1 ∷ 1 ∷ 1 ∷ replicate 11 0) [] [] [] [] (1 ∷ 0 ∷ []) counts)
    0

-- a reshape of one shape to the same
abbrev reshaped : List ℕ → Verdict
reshaped ds = answer reshape (tile I64 ds) (tile I64 ds)

pub cards :
    (answer pack (tile I4 (8 ∷ [])) (tile I8 (4 ∷ []))  -- card 11: as many bits, in whole bytes
    ∷ answer pack (tile I1 (4 ∷ [])) (tile I4 (1 ∷ []))  -- card 11: 4 bits are no whole byte
    ∷ reshaped (2 ^ 31 ∷ 2 ^ 31 ∷ [])  -- card 12: 2^62
    ∷ reshaped (2 ^ 32 ∷ 2 ^ 31 ∷ [])  -- card 12: 2^63
    ∷ reshaped (2 ^ 62 ∷ 4 ∷ 0 ∷ [])  -- the 0 comes too late
    ∷ reshaped (0 ∷ 2 ^ 62 ∷ 4 ∷ [])
    ∷ answer pack (tile I64 (2 ^ 57 ∷ [])) (tile I8 (2 ^ 60 ∷ []))  -- 2^63 bits
    ∷ answer pack (tile I64 (2 ^ 57 ∷ [])) (tile I8 (2 ^ 30 ∷ 2 ^ 30 ∷ []))  -- the bits are not asked: the result has rank 2
    ∷ [])
    ≡ ((Ok tt) ∷ Err (Broken 3) ∷ (Ok tt) ∷ (Err Leaves) ∷ (Err Leaves) ∷ (Ok tt) ∷ (Err Leaves) ∷ Err (Broken 3) ∷ [])
unfolding shape_in shaped_in valid_in pack_leaves is_packing fail_if leave_if operand_tile_in operand_type_in result_tile_in result_type_in opcode_in operands_in operands_span_in result_types_in result_types_span_in value_type_in form_in kind_in pointer_in rank_in dims_in tile_in cells_of row_tile seen_in eight_of dims_of rank_of is_tile is_number same_element signed_of count_of product_of times_all times_of held fits_width is_reshape is_packable bit_count_of is_packed bits_in byte_width_in eq_z
cards = refl
