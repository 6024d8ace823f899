-- The arms that ask for a rounding mode, and the closing rule on flush_to_zero. A rounding is the 64 bits of an integer, so that a negative
-- one is in none of the ranges.
use Rattle.std.specs.Prelude.{ℕ, ◌/◌, ◌%◌, ◌^◌, Bool, not, cond, ◌&&◌, ◌||◌, List, eqb, ltb, leb, Ok}
use Rattle.names.specs.Names.{rounding_mode}
use Rattle.tables.specs.Sheet.{byte_width_in, contained_mask_in}
use Rattle.tables.specs.Tables.{Tables}
use Rattle.tiles.specs.Kind.{F32, TF32, F64, F8E8M0FNU, is_integer}
use Rattle.tiles.specs.Tile.{is_number, has_kind}
use Rattle.lookups.specs.Lookup.{integer_of, is_some, number_or, flushes}
use Rattle.lookups.specs.Typed.{operand_tile, result_tile}
use Rattle.lookups.specs.Verdict.{Verdict, fail_if}

-- 31 FToI
unfoldable pub f_to_i : Tables → ℕ → Verdict
f_to_i x i = fail_if (not (is_some (λ r. eqb r 6) (integer_of x i rounding_mode))) 1 (Ok tt)

-- 2 AddF, 85 SubF, 58 MulF, 28 Fma: `Some(0..=3)`
unfoldable pub add_f : Tables → ℕ → Verdict
add_f x i = fail_if (not (is_some (λ r. leb r 3) (integer_of x i rounding_mode))) 1 (Ok tt)

-- 23 Exp, 88 TanH: 4 is approx, 5 is full and stands for none
unfoldable pub exp : List ℕ → Tables → ℕ → Verdict
exp sheet x i =
    let r = number_or 5 (integer_of x i rounding_mode) in
    fail_if (not (eqb r 4 || eqb r 5)) 1
    (fail_if (eqb r 4 && not (has_kind (operand_tile sheet x i 0) F32)) 2
    (Ok tt))

-- "per destination float kind a mask of source kinds it contains": bit k is for kind k, of 16
unfoldable pub is_contained : List ℕ → ℕ → ℕ → Bool
is_contained sheet dst src = ltb src 16 && eqb (contained_mask_in sheet dst / 2 ^ src % 2) 1

-- the roundings of a conversion: `allowed`. Below 13.4 there are no extended ones.
unfoldable pub is_rounding : ℕ → List ℕ → ℕ → ℕ → ℕ → Bool
is_rounding version sheet src dst r =
    cond (eqb dst F8E8M0FNU) (eqb r 1 || eqb r 3)
    (cond (ltb version 4 || ltb (byte_width_in sheet dst) 2) (eqb r 0)
    (cond (is_contained sheet dst src) (leb r 3 || eqb r 7)
    (cond (eqb src F64 && eqb dst F32) (leb r 3)
    (cond (eqb src F32 && eqb dst TF32) (eqb r 0 || eqb r 1 || eqb r 7)
    (eqb r 0 || eqb r 1)))))

-- 30 FToF; "0 to 5 are integers, the rest floats". No rounding is taken for -1, which is none of the allowed ones.
unfoldable pub f_to_f : ℕ → List ℕ → Tables → ℕ → Verdict
f_to_f version sheet x i =
    let src = operand_tile sheet x i 0 in
    let dst = result_tile sheet x i in
    fail_if (not (is_number src)) 1
    (fail_if (not (is_number dst)) 2
    (fail_if (is_integer src.kind) 3
    (fail_if (is_integer dst.kind) 4
    (fail_if (eqb src.kind dst.kind) 5
    (fail_if (not (is_some (is_rounding version sheet src.kind dst.kind) (integer_of x i rounding_mode))) 6
    (Ok tt))))))

-- "the closing flush_to_zero rule is 99"
unfoldable pub flushed : List ℕ → Tables → ℕ → Verdict
flushed sheet x i = fail_if (flushes x i && not (has_kind (operand_tile sheet x i 0) F32)) 99 (Ok tt)
