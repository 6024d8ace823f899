-- The range of a width is one bound on the size, and that of 64 bits is what an i64 holds.
use mathlib.Core.Path.{◌≡◌, sym, ap, ◌∙◌}
use mathlib.Core.Bool.{Bool, true, ◌&&◌, and-true}
use Prim.Native.Nat.{ℕ, ◌-◌, ◌^◌, ◌<◌}
use native.Mathlib.Omega.{arith}
use lib.Dec.{leb, ltb}
use lib.IntN.{ℤ, pos, negsuc}
use lib.Signed.{mag}
use borrow.Author.Tests.{le-leb, leb-true}
use Rattle.arith.specs.Signed.{fits_width}

-- `mag` is n both of n and of -(n + 1)
pub fits_mag : (b : ℕ) (v : ℤ) → fits_width b v ≡ (ltb 0 b && leb (mag v) (2 ^ (b - 1) - 1))
unfolding fits_width
fits_mag b (pos n) = ap (λ (t : Bool). t && leb n (2 ^ (b - 1) - 1)) (and-true (ltb 0 b))
fits_mag b (negsuc n) = and-true (ltb 0 b && leb n (2 ^ (b - 1) - 1))

pub i64_fits : (z : ℤ) → mag z < 2 ^ 63 → fits_width 64 z ≡ true
i64_fits z h = fits_mag 64 z ∙ le-leb (mag z) (2 ^ 63 - 1) (omega arith)

pub fits_i64 : (z : ℤ) → fits_width 64 z ≡ true → mag z < 2 ^ 63
fits_i64 z e = let h = leb-true (mag z) (2 ^ 63 - 1) (sym (fits_mag 64 z) ∙ e) in omega arith
