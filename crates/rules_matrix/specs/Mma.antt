-- The arm of MmaF, MmaI and MmaFScaled: a is the lhs, b the rhs, c the accumulator, sa and sb their scales.
use Rattle.std.specs.Prelude.{ℕ, not, cond, List, eqb, Ok}
use Rattle.tables.specs.Layout.{opcode_in}
use Rattle.tables.specs.Tables.{Tables}
use Rattle.tables.specs.declared.Counts.{Counts}
use Rattle.tiles.specs.Tile.{is_tile, same_scalar}
use Rattle.tiles.specs.Mma.{mma_ranks_differ, mma_dims_differ, is_mma_kinds, scale_ranks_differ, scale_dims_differ, is_scale_kinds}
use Rattle.tiles.specs.declared.Tile.{Tile}
use Rattle.lookups.specs.Typed.{operand_tile_in, result_tile_in}
use Rattle.lookups.specs.Verdict.{Verdict, fail_if}
use Rattle.rules_matrix.specs.Opcodes.{mma_f, mma_fscaled}

-- what MmaFScaled asks besides: scales that are tiles, of matching ranks and shapes, for kinds and vectors that go together
unfoldable pub scaled_rule : Tile → Tile → Tile → Tile → Tile → Verdict
scaled_rule a b c sa sb =
    fail_if (not (is_tile sa)) 8
    (fail_if (not (is_tile sb)) 9
    (fail_if (scale_ranks_differ a c sa sb) 10
    (fail_if (scale_dims_differ a b sa sb) 11
    (fail_if (not (is_scale_kinds a sa)) 12
    (Ok tt)))))

-- what follows reason 6: MmaF asks for kinds that go together, MmaFScaled for scales, MmaI nothing
unfoldable pub kinds_rule : ℕ → Tile → Tile → Tile → Tile → Tile → Verdict
kinds_rule opcode a b c sa sb =
    cond (eqb opcode mma_f)
    (fail_if (not (is_mma_kinds a c)) 7 (Ok tt))
    (cond (eqb opcode mma_fscaled) (scaled_rule a b c sa sb) (Ok tt))

-- the arm, over the tiles that it reads
unfoldable pub mma_rule : ℕ → Tile → Tile → Tile → Tile → Tile → Tile → Verdict
mma_rule opcode a b c result sa sb =
    fail_if (not (is_tile a)) 1
    (fail_if (not (is_tile b)) 2
    (fail_if (not (is_tile c)) 3
    (fail_if (mma_ranks_differ a b c result) 4
    (fail_if (mma_dims_differ a b c) 5
    (fail_if (not (same_scalar a b)) 6
    (kinds_rule opcode a b c sa sb))))))

-- the arm, over the tables that it reads
unfoldable pub mma_in : List ℕ → List ℕ → List ℕ → List ℕ → List ℕ → Counts → ℕ → Verdict
mma_in t v o l sheet n i =
    let operand = operand_tile_in t v o l sheet n i in
    mma_rule (opcode_in o n i) (operand 0) (operand 1) (operand 2) (result_tile_in t o l sheet n i) (operand 3) (operand 4)

abbrev pub mma_arm : List ℕ → Tables → ℕ → Verdict
mma_arm sheet x i = mma_in x.t x.v x.o x.l sheet x.counts i
