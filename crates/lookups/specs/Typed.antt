-- The types of an operation's operands and of its first result, and the tiles that they are: the Rust's `operand` and `result`.
-- Each stands over the tables that it reads, and then over all of them.
use Rattle.std.specs.Prelude.{ℕ, cond, List, [], ltb, length, get_or, Option, Some, None}
use Rattle.tables.specs.Layout.{operands_in, result_types_in, value_type_in}
use Rattle.tables.specs.Tables.{Tables}
use Rattle.tables.specs.declared.Counts.{Counts}
use Rattle.tiles.specs.Tile.{no_tile, seen_in, tile_in}
use Rattle.tiles.specs.declared.Tile.{Tile}

-- the type of operand k: that of the value at its place
unfoldable pub operand_type_in : List ℕ → List ℕ → List ℕ → Counts → ℕ → ℕ → Option ℕ
operand_type_in v o l n i k =
    let vs = operands_in o l n i in cond (ltb k (length vs)) (Some (value_type_in v n (get_or vs k 0))) None

abbrev pub operand_type : Tables → ℕ → ℕ → Option ℕ
operand_type x i k = operand_type_in x.v x.o x.l x.counts i k

-- the type of the first result
unfoldable pub result_type_in : List ℕ → List ℕ → Counts → ℕ → Option ℕ
result_type_in o l n i = let ts = result_types_in o l n i in cond (ltb 0 (length ts)) (Some (get_or ts 0 0)) None

abbrev pub result_type : Tables → ℕ → Option ℕ
result_type x i = result_type_in x.o x.l x.counts i

-- the cells of a type that is a tile, where there is a type
abbrev pub row_by : List ℕ → List ℕ → Counts → Option ℕ → List ℕ
row_by t sheet n (Some id) = seen_in t sheet n id
row_by t sheet n None = []

-- the tile that a type is, where there is a type
abbrev pub tile_by : List ℕ → List ℕ → Counts → Option ℕ → Tile
tile_by t sheet n (Some id) = tile_in t sheet n id
tile_by t sheet n None = no_tile

unfoldable pub operand_tile_in : List ℕ → List ℕ → List ℕ → List ℕ → List ℕ → Counts → ℕ → ℕ → Tile
operand_tile_in t v o l sheet n i k = tile_by t sheet n (operand_type_in v o l n i k)

abbrev pub operand_tile : List ℕ → Tables → ℕ → ℕ → Tile
operand_tile sheet x i k = operand_tile_in x.t x.v x.o x.l sheet x.counts i k

unfoldable pub result_tile_in : List ℕ → List ℕ → List ℕ → List ℕ → Counts → ℕ → Tile
result_tile_in t o l sheet n i = tile_by t sheet n (result_type_in o l n i)

abbrev pub result_tile : List ℕ → Tables → ℕ → Tile
result_tile sheet x i = result_tile_in x.t x.o x.l sheet x.counts i
