-- The cells of a type are those of its tile. Assumes nothing.
use Prim.Native.Nat.{ℕ}
use mathlib.Core.Path.{◌≡◌, refl}
use mathlib.Core.List.{List}
use Rattle.std.specs.Prelude.{Option, Some, None}
use Rattle.tables.specs.declared.Counts.{Counts}
use Rattle.tiles.specs.Tile.{tile_row, tile_in}
use Rattle.tiles.proofs.Rows.{no_row}
use Rattle.lookups.specs.Typed.{row_by, tile_by}

-- the tile that is made of the cells of a type that was read
pub row_tile_by : (t sheet : List ℕ) (n : Counts) (typed : Option ℕ) → tile_row (row_by t sheet n typed) ≡ tile_by t sheet n typed
unfolding tile_in
row_tile_by t sheet n (Some id) = refl
row_tile_by t sheet n None = no_row
