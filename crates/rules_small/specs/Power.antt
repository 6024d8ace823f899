-- The arm of FPowI.
use Rattle.std.specs.Prelude.{ℕ, not, ◌||◌, List, Ok}
use Rattle.tables.specs.Tables.{Tables}
use Rattle.tiles.specs.Tile.{is_tile}
use Rattle.tiles.specs.Shape.{same_shape, same_tile}
use Rattle.tiles.specs.Rules.{is_power_base, is_power_exponent}
use Rattle.lookups.specs.Typed.{operand_tile, result_tile}
use Rattle.lookups.specs.Verdict.{Verdict, fail_if}

-- 103 FPowI
unfoldable pub f_pow_i : List ℕ → Tables → ℕ → Verdict
f_pow_i sheet x i =
    let base = operand_tile sheet x i 0 in
    let exponent = operand_tile sheet x i 1 in
    fail_if (not (is_tile base)) 1
    (fail_if (not (is_tile exponent)) 2
    (fail_if (not (is_power_base base) || not (same_tile (result_tile sheet x i) base)) 3
    (fail_if (not (same_shape base exponent) || not (is_power_exponent exponent)) 4
    (Ok tt))))
