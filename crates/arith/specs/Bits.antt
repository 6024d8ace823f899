-- The bits of a mask.
use Rattle.std.specs.Prelude.{ℕ, ◌/◌, ◌%◌, ◌^◌, Bool, ◌&&◌, eqb, ltb}

-- bit k of a mask is set, of as many bits as its width says
unfoldable pub has_bit : ℕ → ℕ → ℕ → Bool
has_bit width mask k = ltb k width && eqb (mask / 2 ^ k % 2) 1
