-- No element is wider than 64 bits.
use mathlib.Core.Bool.{Bool, true, false, cond, ◌||◌}
use mathlib.Core.List.{List}
use Prim.Native.Nat.{ℕ, ◌*◌, ◌≤◌, min}
use native.Mathlib.Omega.{arith}
use lib.Dec.{eqb}
use Rattle.tables.specs.Sheet.{byte_width_in}
use Rattle.tiles.specs.Kind.{bits_in}

pub bits_few : (sheet : List ℕ) (kind : ℕ) → bits_in sheet kind ≤ 64
unfolding bits_in
bits_few sheet kind = by (eqb kind 0) (eqb kind 1 || eqb kind 14) (byte_width_in sheet kind)
  where
    by : (s t : Bool) (w : ℕ) → cond s 1 (cond t 4 (8 * min w 8)) ≤ 64
    by true t w = omega arith
    by false true w = omega arith
    by false false w = omega arith
