-- Signed numbers: their two's complement of 64 bits, the ranges of widths, the remainder.
use Rattle.std.specs.Prelude.{ℕ, suc, ◌-◌, ◌^◌, Bool, cond, ◌&&◌, ltb, ℤ, pos, negsuc, Option, Some, None}
use Rattle.std.specs.Int.Signed.{lt_z, le_z, rem_z}

-- The number of 64 bits: the bits themselves below 2^63, and 2^64 less above. `negsuc n` is -(n + 1).
unfoldable pub signed_of : ℕ → ℤ
signed_of b = cond (ltb b (2 ^ 63)) (pos b) (negsuc (2 ^ 64 - suc b))

-- The 64 bits of a number: a negative one has 2^64 added.
unfoldable pub bits_of : ℤ → ℕ
bits_of (pos n) = n
bits_of (negsuc n) = 2 ^ 64 - suc n

-- The least and the greatest signed number of b bits, for b from 1: -2^(b - 1) and 2^(b - 1) - 1.
abbrev pub least : ℕ → ℤ
least b = negsuc (2 ^ (b - 1) - 1)

abbrev pub greatest : ℕ → ℤ
greatest b = pos (2 ^ (b - 1) - 1)

-- v lies in the signed range of b bits. Paper: "bounded endpoints fit the signed range of the width. At 0 bits no endpoint fits."
unfoldable pub fits_width : ℕ → ℤ → Bool
fits_width b v = ltb 0 b && le_z (least b) v && le_z v (greatest b)

-- The remainder of l by s, with the sign of l. Paper: "signed remainders in tile extents"; the Rust asks first whether s is above 0.
unfoldable pub remainder_of : ℤ → ℤ → Option ℤ
remainder_of l s = cond (lt_z (pos 0) s) (Some (rem_z l s)) None
