-- The compound tests that the arms of the operation rules make of tiles, arm by arm.
use Rattle.std.specs.Prelude.{ℕ, zero, suc, Bool, true, false, not, ◌&&◌, ◌||◌, List, [], ◌∷◌, eqb, leb, ℤ, pos, nat_abs, length}
use Rattle.std.specs.Int.Signed.{lt_z, rem_z}
use Rattle.cells.specs.Lists.{mem}
use Rattle.arith.specs.Product.{times_of, and_then}
use Rattle.std.specs.Prelude.{Option, Some, None}
use Rattle.tiles.specs.Kind.{I1, I8, I16, I32, F16, BF16, F32, F64, bits_in}
use Rattle.tiles.specs.Tile.{dims_of, rank_of, dim_of, is_tile, is_number, has_kind, same_element, points_to}
use Rattle.tiles.specs.Shape.{eq_z, any_pair, same_dim, same_rank, same_shape, same_tile, is_uneven, is_stretched, count_of, same_product}
use Rattle.tiles.specs.declared.Tile.{Tile}

-- ---- the six shape operations

-- both are of numbers, of as many bits
unfoldable pub same_bits : List ℕ → Tile → Tile → Bool
same_bits sheet a b = is_number a && is_number b && eqb (bits_in sheet a.kind) (bits_in sheet b.kind)

-- Bitcast: one shape, and elements of as many bits
unfoldable pub is_bitcast : List ℕ → Tile → Tile → Bool
is_bitcast sheet src dst = same_shape src dst && same_bits sheet src dst

-- Reshape: one element type, and as many elements
unfoldable pub is_reshape : Tile → Tile → Bool
is_reshape src dst = same_element src dst && same_product (count_of src) (count_of dst)

-- Broadcast: one element type and rank, and dims that are taken to the others
unfoldable pub is_broadcast : Tile → Tile → Bool
is_broadcast src dst = same_element src dst && same_rank src dst && is_stretched src dst

-- every axis below n is among the entries
unfoldable pub has_axes : List ℕ → ℕ → Bool
has_axes p zero = true
has_axes p (suc n) = mem n p && has_axes p n

-- A permutation of n axes: n entries, with every axis among them. A negative entry has bits that are no axis.
unfoldable pub is_permutation : List ℕ → ℕ → Bool
is_permutation p n = eqb (length p) n && has_axes p n

-- from dim i on, each dim of the result is the source's at the entry
unfoldable pub moved_from : Tile → Tile → ℕ → List ℕ → Bool
moved_from src dst i [] = true
moved_from src dst i (k ∷ ks) = same_dim dst i src k && moved_from src dst (suc i) ks

-- Permute: rank 2 or more, one rank and element type, and dims that the permutation moves
unfoldable pub is_permuted : Tile → Tile → List ℕ → Bool
is_permuted src dst p =
    leb 2 (rank_of src) && same_rank dst src && same_element src dst && is_permutation p (rank_of src) && moved_from src dst 0 p

-- Pack and Unpack, but for the counts: numbers of rank 1 and of different bits
unfoldable pub is_packable : List ℕ → Tile → Tile → Bool
is_packable sheet src dst =
    is_number src && is_number dst && eqb (rank_of src) 1 && eqb (rank_of dst) 1
    && not (eqb (bits_in sheet src.kind) (bits_in sheet dst.kind))

-- the bits of all elements: "Pack and unpack also give 12 where a count times its bits leaves i64"
unfoldable pub bit_count_of : List ℕ → Tile → Option ℤ
bit_count_of sheet t = and_then (count_of t) (λ p. times_of p (pos (bits_in sheet t.kind)))

-- whole bytes
abbrev pub in_bytes : Option ℤ → Bool
in_bytes (Some p) = eq_z (rem_z p (pos 8)) (pos 0)
in_bytes None = false

-- Pack and Unpack: as many bits on both sides, in whole bytes
unfoldable pub is_packed : List ℕ → Tile → Tile → Bool
is_packed sheet src dst = same_product (bit_count_of sheet src) (bit_count_of sheet dst) && in_bytes (bit_count_of sheet src)

-- ---- atomics

-- pointer, value and result do not match
unfoldable pub atomic_differs : Tile → Tile → Tile → Bool
atomic_differs ptr val result = not (points_to ptr val) || not (same_shape ptr val) || not (same_tile result val)

-- 32 or 64 bits
unfoldable pub is_word : List ℕ → ℕ → Bool
is_word sheet kind = eqb (bits_in sheet kind) 32 || eqb (bits_in sheet kind) 64

-- a tile after the value that is no mask for it
unfoldable pub is_wrong_mask : Tile → Tile → Bool
is_wrong_mask mask val = is_tile mask && (not (has_kind mask I1) || not (same_shape mask val))

-- ---- Assume

-- a group size that is negative or above the dim
unfoldable pub outside_dim : ℤ → ℤ → Bool
outside_dim size dim = lt_z size (pos 0) || lt_z dim size

-- div_by: no axis along, or a group size every that is none of that axis
unfoldable pub is_group_outside : Tile → ℤ → ℤ → Bool
is_group_outside t every along =
    lt_z along (pos 0) || leb (rank_of t) (nat_abs along) || outside_dim every (dim_of t (nat_abs along))

-- same_elements: not one group size for each axis
unfoldable pub is_groups_outside : Tile → List ℤ → Bool
is_groups_outside t sizes = not (eqb (length sizes) (rank_of t)) || any_pair outside_dim sizes (dims_of t)

-- ---- FPowI

unfoldable pub is_power_base : Tile → Bool
is_power_base t =
    is_number t && (eqb t.kind F16 || eqb t.kind BF16 || eqb t.kind F32 || eqb t.kind F64)

unfoldable pub is_power_exponent : Tile → Bool
is_power_exponent t =
    is_number t && (eqb t.kind I1 || eqb t.kind I8 || eqb t.kind I16 || eqb t.kind I32)

-- ---- Insert and Extract

-- different elements or ranks, or a dim that does not divide
unfoldable pub is_no_part : Tile → Tile → Bool
is_no_part small large = not (same_element small large) || not (same_rank small large) || is_uneven small large

-- a single I32
unfoldable pub is_index : Tile → Bool
is_index t = eqb (rank_of t) 0 && has_kind t I32

-- ---- views

-- an index along a sparse axis: rank 1, and the axis's extent
unfoldable pub is_axis_index : Tile → Tile → ℕ → Bool
is_axis_index index view axis = eqb (rank_of index) 1 && same_dim index 0 view axis
