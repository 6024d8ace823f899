-- The definitions on small tiles, by computation.
use mathlib.Core.Path.{◌≡◌, refl}
use mathlib.Core.Bool.{true, false}
use mathlib.Core.List.{List, [], ◌∷◌, ◌++◌}
use Prim.Native.Nat.{ℕ, ◌-◌, ◌^◌}
use lib.IntN.{ℤ, pos, negsuc}
use lib.ListN.{length, replicate}
use Rattle.arith.specs.Signed.{signed_of, fits_width}
use Rattle.arith.specs.Product.{held, times_of, times_all, product_of}
use Rattle.std.specs.Prelude.{Some, None}
use Rattle.tables.specs.Layout.{form_in, kind_in, pointer_in, rank_in, dims_in}
use Rattle.tables.specs.Sheet.{byte_width_in, tile_flag_in, tile_through_in}
use Rattle.tables.specs.declared.Counts.{Counts}
use Rattle.tiles.specs.Kind.{I4, I8, I32, F16, F32, F4E2M1FN, F8E8M0FNU, bits_in}
use Rattle.tiles.specs.Tile.{no_tile, eight_of, cells_of, row_tile, seen_in, tile_in, view_in, dims_of, rank_of, dim_of, is_number, same_element}
use Rattle.tiles.specs.Shape.{eq_z, any_pair, all_pairs, same_dim, same_rank, same_shape, undivided_by, is_uneven, stretches_to, is_stretched, quotient_of, count_of}
use Rattle.tiles.specs.Rules.{is_broadcast, has_axes, is_permutation, moved_from, is_permuted, is_no_part, bit_count_of, is_packed}
use Rattle.tiles.specs.Mma.{row_of, column_of, mma_dims_differ, vector_of, is_scaled, is_scale_kinds}
use Rattle.tiles.specs.declared.Tile.{Tile}

-- a tile of numbers with these dims
abbrev of : ℕ → List ℤ → Tile
of kind ds = record { form = 1; kind = kind; rank = length ds; dims = ds ++ replicate (8 - length ds) (pos 0) }

-- one type, a tile of I32 with the dims 2 and -1 and this pointer attribute
abbrev row : ℕ → List ℕ
row pointer = 1 ∷ 4 ∷ pointer ∷ 0 ∷ 0 ∷ 2 ∷ 0 ∷ 0 ∷ 2 ∷ (2 ^ 64 - 1) ∷ 0 ∷ 0 ∷ 0 ∷ 0 ∷ 0 ∷ 0 ∷ []

abbrev one_type : Counts
one_type = record { types = 1; values = 0; operations = 0; attributes = 0; blocks = 0; regions = 0; functions = 0 }

abbrev seen_through : List ℕ
seen_through = replicate 304 0 ++ (1 ∷ [])

read : tile_in (row 0) [] one_type 0 ≡ of I32 (pos 2 ∷ negsuc 0 ∷ [])
unfolding tile_in cells_of row_tile seen_in eight_of form_in kind_in pointer_in rank_in dims_in tile_through_in tile_flag_in signed_of
read = refl

not_through : tile_in (row 7) [] one_type 0 ≡ no_tile
unfolding tile_in cells_of row_tile seen_in eight_of form_in kind_in pointer_in rank_in dims_in tile_through_in tile_flag_in no_tile
not_through = refl

through : tile_in (row 7) seen_through one_type 0 ≡ of I32 (pos 2 ∷ negsuc 0 ∷ [])
unfolding tile_in cells_of row_tile seen_in eight_of form_in kind_in pointer_in rank_in dims_in tile_through_in tile_flag_in signed_of
through = refl

-- no form 1 is a view
no_view : view_in (row 0) one_type 0 ≡ no_tile
unfolding view_in form_in no_tile
no_view = refl

longer : same_shape (of I8 (pos 2 ∷ [])) (of I8 (pos 2 ∷ pos 4 ∷ [])) ≡ false
unfolding same_shape same_rank rank_of dims_of
longer = refl

zero_divides_nothing : undivided_by (pos 0) (pos 0) ≡ true
unfolding undivided_by
zero_divides_nothing = refl

negative_large : undivided_by (pos 4) (negsuc 7) ≡ false
unfolding undivided_by eq_z
negative_large = refl

a_part : is_no_part (of I8 (pos 2 ∷ pos 4 ∷ [])) (of I8 (pos 8 ∷ pos 4 ∷ [])) ≡ false
unfolding is_no_part is_uneven same_element same_rank rank_of dims_of any_pair undivided_by eq_z
a_part = refl

one_is_stretched : is_broadcast (of I8 (pos 1 ∷ pos 4 ∷ [])) (of I8 (pos 8 ∷ pos 4 ∷ [])) ≡ true
unfolding is_broadcast is_stretched same_element same_rank rank_of dims_of all_pairs stretches_to eq_z
one_is_stretched = refl

turned : is_permuted (of I8 (pos 2 ∷ pos 3 ∷ [])) (of I8 (pos 3 ∷ pos 2 ∷ [])) (1 ∷ 0 ∷ []) ≡ true
unfolding is_permuted is_permutation has_axes moved_from same_element same_rank same_dim dim_of rank_of dims_of eq_z
turned = refl

no_permutation : is_permuted (of I8 (pos 2 ∷ pos 2 ∷ [])) (of I8 (pos 2 ∷ pos 2 ∷ [])) (1 ∷ 1 ∷ []) ≡ false
unfolding is_permuted is_permutation has_axes moved_from same_element same_rank same_dim dim_of rank_of dims_of eq_z
no_permutation = refl

-- card 12: 2^31 by 2^31 has its product, 2^32 by 2^31 has not
has_product : count_of (of I8 (pos (2 ^ 31) ∷ pos (2 ^ 31) ∷ [])) ≡ Some (pos (2 ^ 62))
unfolding count_of dims_of product_of times_all times_of held fits_width
has_product = refl

leaves : count_of (of I8 (pos (2 ^ 32) ∷ pos (2 ^ 31) ∷ [])) ≡ None
unfolding count_of dims_of product_of times_all times_of held fits_width
leaves = refl

-- a sheet with the width 1 for I8
abbrev i8_width : List ℕ
i8_width = replicate 290 0 ++ (1 ∷ [])

-- card 11: 8 I4 into 4 I8
packs : is_packed i8_width (of I4 (pos 8 ∷ [])) (of I8 (pos 4 ∷ [])) ≡ true
unfolding is_packed bit_count_of bits_in byte_width_in count_of dims_of product_of times_all times_of held fits_width eq_z
packs = refl

mma_dims : mma_dims_differ (of F16 (pos 2 ∷ pos 3 ∷ [])) (of F16 (pos 3 ∷ pos 5 ∷ [])) (of F32 (pos 2 ∷ pos 5 ∷ [])) ≡ false
unfolding mma_dims_differ row_of column_of same_dim dim_of rank_of dims_of eq_z
mma_dims = refl

-- 64 columns under 2 scales: 32 a scale
scaled : is_scale_kinds (of F4E2M1FN (pos 16 ∷ pos 64 ∷ [])) (of F8E8M0FNU (pos 16 ∷ pos 2 ∷ [])) ≡ true
unfolding is_scale_kinds is_scaled vector_of quotient_of column_of dim_of rank_of dims_of is_number eq_z
scaled = refl
