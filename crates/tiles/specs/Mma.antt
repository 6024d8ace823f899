-- The compound tests of the MMA arm, for a lhs a, a rhs b and an accumulator c, with the scales sa and sb.
use Rattle.std.specs.Prelude.{ℕ, ◌-◌, Bool, not, ◌&&◌, ◌||◌, eqb, ℤ, pos}
use Rattle.tiles.specs.Kind.{F16, BF16, F32, TF32, F64, F8E4M3FN, F8E5M2, F8E8M0FNU, F4E2M1FN, F8E5M3FNU}
use Rattle.tiles.specs.Tile.{rank_of, dim_of, is_number, has_kind, same_scalar}
use Rattle.tiles.specs.Shape.{eq_z, same_dim, same_rank, same_tile, undivided_by, quotient_of}
use Rattle.tiles.specs.declared.Tile.{Tile}

-- the last dim but one, and the last
unfoldable pub row_of : Tile → ℕ
row_of t = rank_of t - 2

unfoldable pub column_of : Tile → ℕ
column_of t = rank_of t - 1

-- ranks that are not 2 or 3 and the same, or a result that is not the accumulator's type
unfoldable pub mma_ranks_differ : Tile → Tile → Tile → Tile → Bool
mma_ranks_differ a b c result =
    not (eqb (rank_of a) 2 || eqb (rank_of a) 3) || not (same_rank b a) || not (same_rank c a) || not (same_tile result c)

-- M, N, K or the batch differ
unfoldable pub mma_dims_differ : Tile → Tile → Tile → Bool
mma_dims_differ a b c =
    not (same_dim a (row_of a) c (row_of a)) || not (same_dim b (column_of a) c (column_of a)) || not (same_dim a (column_of a) b (row_of a))
    || (eqb (rank_of a) 3 && (not (same_dim a 0 b 0) || not (same_dim a 0 c 0)))

-- the accumulators of MmaF: F16 or F32 for F4E2M1FN, F8E4M3FN, F8E5M2 and F16; F32 for BF16, TF32 and F32; F64 for F64
unfoldable pub is_mma_pair : ℕ → ℕ → Bool
is_mma_pair input acc =
    ((eqb input F4E2M1FN || eqb input F8E4M3FN || eqb input F8E5M2 || eqb input F16) && (eqb acc F16 || eqb acc F32))
    || ((eqb input BF16 || eqb input TF32 || eqb input F32) && eqb acc F32)
    || (eqb input F64 && eqb acc F64)

unfoldable pub is_mma_kinds : Tile → Tile → Bool
is_mma_kinds a c = is_number a && is_number c && is_mma_pair a.kind c.kind

-- scales of other ranks or of two kinds, or an accumulator that is not of F32
unfoldable pub scale_ranks_differ : Tile → Tile → Tile → Tile → Bool
scale_ranks_differ a c sa sb =
    not (same_rank sa a) || not (same_rank sb a) || not (has_kind c F32) || not (same_scalar sa sb)

-- M, N, the batch or the scales' own K differ, or K is not divided
unfoldable pub scale_dims_differ : Tile → Tile → Tile → Tile → Bool
scale_dims_differ a b sa sb =
    not (same_dim sa (row_of a) a (row_of a)) || not (same_dim sb (column_of a) b (column_of a)) || not (same_dim sa (column_of a) sb (row_of a))
    || (eqb (rank_of a) 3 && (not (same_dim sa 0 a 0) || not (same_dim sb 0 b 0)))
    || undivided_by (dim_of sa (column_of a)) (dim_of a (column_of a))

-- how many of a's columns a scale is for
unfoldable pub vector_of : Tile → Tile → ℤ
vector_of a sa = quotient_of (dim_of a (column_of a)) (dim_of sa (column_of a))

-- the vectors of MmaFScaled: 16 for F4E2M1FN by F8E4M3FN, 16 or 32 by F8E8M0FNU or F8E5M3FNU; 32 for F8E4M3FN and F8E5M2 by F8E8M0FNU
unfoldable pub is_scaled : ℕ → ℕ → ℤ → Bool
is_scaled input scale vector =
    (eqb input F4E2M1FN && eqb scale F8E4M3FN && eq_z vector (pos 16))
    || (eqb input F4E2M1FN && (eqb scale F8E8M0FNU || eqb scale F8E5M3FNU) && (eq_z vector (pos 16) || eq_z vector (pos 32)))
    || ((eqb input F8E4M3FN || eqb input F8E5M2) && eqb scale F8E8M0FNU && eq_z vector (pos 32))

unfoldable pub is_scale_kinds : Tile → Tile → Bool
is_scale_kinds a sa = is_number a && is_number sa && is_scaled a.kind sa.kind (vector_of a sa)
