-- The arm of Insert and Extract: a small tile is put into a large one, or taken out of it, at one index for each dim.
use Rattle.std.specs.Prelude.{ℕ, ◌+◌, Bool, false, not, cond, ◌||◌, List, [], ◌∷◌, eqb, length, Ok}
use Rattle.cells.specs.Lists.{from}
use Rattle.tables.specs.Layout.{opcode_in, operands_in}
use Rattle.tables.specs.Tables.{Tables}
use Rattle.tables.specs.declared.Counts.{Counts}
use Rattle.tiles.specs.Tile.{is_tile, rank_of}
use Rattle.tiles.specs.Shape.{same_tile}
use Rattle.tiles.specs.Rules.{is_no_part, is_index}
use Rattle.tiles.specs.declared.Tile.{Tile}
use Rattle.lookups.specs.Typed.{operand_tile_in, result_tile_in}
use Rattle.lookups.specs.Verdict.{Verdict, fail_if}
use Rattle.rules_matrix.specs.Opcodes.{insert}

-- some entry has the property
abbrev pub any : (ℕ → Bool) → List ℕ → Bool
any p [] = false
any p (x ∷ xs) = p x || any p xs

module _ (t v o l sheet : List ℕ) (n : Counts) (i : ℕ) where
  -- operand k is no single I32
  unfoldable pub is_no_index : ℕ → Bool
  is_no_index k = not (is_index (operand_tile_in t v o l sheet n i k))

  -- the operands from the offset on are not one index for each of so many dims
  unfoldable pub indices_differ : ℕ → ℕ → Bool
  indices_differ offset rank =
      not (eqb (length (operands_in o l n i)) (offset + rank)) || any is_no_index (from offset rank)

  -- what both ask of the small tile, the large one, and the place of the first index
  unfoldable pub part_rule : Tile → Tile → ℕ → Verdict
  part_rule small large offset =
      fail_if (is_no_part small large) 4
      (fail_if (indices_differ offset (rank_of small)) 5
      (Ok tt))

  -- the arm: Insert puts its source into operand 1, of the result's type; Extract takes its result out of its source
  unfoldable pub part_in : Verdict
  part_in =
      let source = operand_tile_in t v o l sheet n i 0 in
      let output = result_tile_in t o l sheet n i in
      fail_if (not (is_tile source)) 1
      (fail_if (not (is_tile output)) 2
      (cond (eqb (opcode_in o n i) insert)
      (fail_if (not (same_tile (operand_tile_in t v o l sheet n i 1) output)) 3 (part_rule source output 2))
      (part_rule output source 1)))

abbrev pub part_arm : List ℕ → Tables → ℕ → Verdict
part_arm sheet x i = part_in x.t x.v x.o x.l sheet x.counts i
