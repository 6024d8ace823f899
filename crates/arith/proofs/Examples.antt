-- The definitions at their edges, by computation.
use mathlib.Core.Path.{◌≡◌, refl}
use mathlib.Core.Bool.{true, false}
use mathlib.Core.List.{[], ◌∷◌}
use Prim.Native.Nat.{◌-◌, ◌+◌, ◌^◌}
use lib.IntN.{pos, negsuc}
use Rattle.arith.specs.Signed.{signed_of, bits_of, fits_width, remainder_of}
use Rattle.arith.specs.Product.{held, times_of, times_all, product_of}
use Rattle.arith.specs.Power.{power_below, is_power_of_two}
use Rattle.std.specs.Prelude.{Some, None}

all_ones : signed_of (2 ^ 64 - 1) ≡ negsuc 0
unfolding signed_of
all_ones = refl

least_bits : bits_of (negsuc (2 ^ 63 - 1)) ≡ 2 ^ 63
unfolding bits_of
least_bits = refl

four_bits : fits_width 4 (negsuc 7) ≡ true
unfolding fits_width
four_bits = refl

not_four_bits : fits_width 4 (pos 8) ≡ false
unfolding fits_width
not_four_bits = refl

dividend_sign : remainder_of (negsuc 6) (pos 4) ≡ Some (negsuc 2)
unfolding remainder_of
dividend_sign = refl

leaves_before_zero : product_of (pos (2 ^ 62) ∷ pos 4 ∷ pos 0 ∷ []) ≡ None
unfolding product_of times_all times_of held fits_width
leaves_before_zero = refl

zero_first : product_of (pos 0 ∷ pos (2 ^ 62) ∷ pos 4 ∷ []) ≡ Some (pos 0)
unfolding product_of times_all times_of held fits_width
zero_first = refl

top_power : is_power_of_two (2 ^ 63) ≡ true
unfolding is_power_of_two power_below
top_power = refl

above_top : is_power_of_two (2 ^ 63 + 1) ≡ false
unfolding is_power_of_two power_below
above_top = refl
