-- The rule sheet, table 8, as it stands in its lent slice of 320 cells:
--   0 to 209    for each opcode, 1 where its result count is fixed, and the count
--   256 to 271  for each atomic mode, the mask of kinds it takes
--   272 to 287  for each destination kind, the mask of source kinds it contains
--   288 to 303  for each kind, its width in bytes
--   304         1 where a tile is seen through a pointer attribute
use Rattle.std.specs.Prelude.{ℕ, Bool, cond, List, eqb, get_or, Option, Some, None}
use Rattle.tables.specs.Sizes.{opcodes, kinds, modes}
use Rattle.tables.specs.Layout.{counted_cell}

-- "fixed result count per opcode or none"
unfoldable pub fixed_flag_in : List ℕ → ℕ → ℕ
fixed_flag_in s op = counted_cell opcodes 2 s op 0

unfoldable pub fixed_count_in : List ℕ → ℕ → Option ℕ
fixed_count_in s op = cond (eqb (fixed_flag_in s op) 1) (Some (counted_cell opcodes 2 s op 1)) None

-- "per atomic mode 0 to 15 a mask of 16 element kinds"; "A mode absent or outside 0 to 15 is invalid": its mask is 0
unfoldable pub mode_mask_in : List ℕ → ℕ → ℕ
mode_mask_in s mode = counted_cell modes 1 s mode 256

-- "per destination float kind a mask of source kinds it contains"
unfoldable pub contained_mask_in : List ℕ → ℕ → ℕ
contained_mask_in s kind = counted_cell kinds 1 s kind 272

-- "byte width per kind"
unfoldable pub byte_width_in : List ℕ → ℕ → ℕ
byte_width_in s kind = counted_cell kinds 1 s kind 288

-- "whether a tile is seen through a pointer attribute"
unfoldable pub tile_flag_in : List ℕ → ℕ
tile_flag_in s = get_or s 304 0

unfoldable pub tile_through_in : List ℕ → Bool
tile_through_in s = eqb (tile_flag_in s) 1
