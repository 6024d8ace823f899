-- The arm of `Bitcast | Reshape | Broadcast | Permute | Pack | Unpack` in verify_target.rs, line by line.
use Rattle.std.specs.Prelude.{ℕ, Bool, false, not, cond, ◌&&◌, ◌||◌, List, eqb, Option, Some, None, Ok}
use Rattle.tables.specs.Layout.{opcode_in, numbers_in}
use Rattle.tables.specs.Tables.{Tables}
use Rattle.tables.specs.declared.Counts.{Counts}
use Rattle.tiles.specs.Tile.{is_tile}
use Rattle.tiles.specs.Shape.{count_of, has_left}
use Rattle.tiles.specs.Rules.{is_bitcast, is_reshape, is_broadcast, is_permuted, is_packable, bit_count_of, is_packed}
use Rattle.tiles.specs.declared.Tile.{Tile}
use Rattle.lookups.specs.Lookup.{permutation_in}
use Rattle.lookups.specs.Typed.{operand_tile_in, result_tile_in}
use Rattle.lookups.specs.Verdict.{Verdict, fail_if, leave_if}
use Rattle.rules_shape.specs.Opcode.{bitcast, reshape, broadcast, permute, pack, unpack}

-- Permute: there is a permutation, and it moves the dims
abbrev pub moved_by : List ℕ → List ℕ → Counts → Tile → Tile → Option ℕ → Bool
moved_by a l n src dst (Some k) = is_permuted src dst (numbers_in a l n k)
moved_by a l n src dst None = false

-- Pack or Unpack
unfoldable pub is_packing : ℕ → Bool
is_packing code = eqb code pack || eqb code unpack

-- "Pack and unpack also give 12 where a count times its bits leaves i64, when that test is reached": all before it holds
unfoldable pub pack_leaves : List ℕ → ℕ → Tile → Tile → Bool
pack_leaves sheet code src dst =
    is_packing code && is_packable sheet src dst && (has_left (bit_count_of sheet src) || has_left (bit_count_of sheet dst))

-- `valid`, by the opcode; the arm meets no other than the six
unfoldable pub valid_in : List ℕ → List ℕ → List ℕ → List ℕ → Counts → ℕ → Tile → Tile → Bool
valid_in o a l sheet n i src dst =
    let code = opcode_in o n i in
    cond (eqb code bitcast) (is_bitcast sheet src dst)
    (cond (eqb code reshape) (is_reshape src dst)
    (cond (eqb code broadcast) (is_broadcast src dst)
    (cond (eqb code permute) (moved_by a l n src dst (permutation_in o a l n i))
    (is_packing code && is_packable sheet src dst && is_packed sheet src dst))))

-- The arm, on the source and the result: "both products are taken from the left right after reasons 1 and 2; a partial product outside
-- i64 is code 12".
unfoldable pub shaped_in : List ℕ → List ℕ → List ℕ → List ℕ → Counts → ℕ → Tile → Tile → Verdict
shaped_in o a l sheet n i src dst =
    fail_if (not (is_tile src)) 1  -- the source is no tile
    (fail_if (not (is_tile dst)) 2  -- the result is no tile
    (leave_if (has_left (count_of src))
    (leave_if (has_left (count_of dst))
    (leave_if (pack_leaves sheet (opcode_in o n i) src dst)
    (fail_if (not (valid_in o a l sheet n i src dst)) 3  -- they do not go together
    (Ok tt))))))

-- the source is operand 0
unfoldable pub shape_in : List ℕ → List ℕ → List ℕ → List ℕ → List ℕ → List ℕ → Counts → ℕ → Verdict
shape_in t v o a l sheet n i =
    shaped_in o a l sheet n i (operand_tile_in t v o l sheet n i 0) (result_tile_in t o l sheet n i)

abbrev pub shape_arm : List ℕ → Tables → ℕ → Verdict
shape_arm sheet x i = shape_in x.t x.v x.o x.a x.l sheet x.counts i
