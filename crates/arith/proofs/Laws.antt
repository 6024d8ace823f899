-- What a reader may rely on of the numbers, whatever computes them.
use mathlib.Core.Path.{◌≡◌, refl, ap, ◌∙◌}
use mathlib.Core.Bool.{Bool, true, false, cond}
use mathlib.Core.List.{List, ◌++◌}
use Prim.Native.Nat.{ℕ, suc, ◌-◌, ◌^◌, ◌≤◌, ◌<◌}
use native.Mathlib.Omega.{arith}
use lib.Count.{ones}
use lib.Dec.{eqb, ltb}
use lib.IntN.{ℤ, pos, negsuc}
use lib.Pow.{pow_mono}
use lib.Signed.{mag}
use borrow.Author.Tests.{lt-ltb, le-ltb, le-leb}
use mir.Syntax.{w64}
use mir.Val.{SFits, to_z, of_z, sel}
use Rattle.arith.specs.Signed.{signed_of, bits_of, fits_width}
use Rattle.arith.specs.Product.{product_of}
use Rattle.arith.specs.Power.{is_power_of_two}
use Rattle.std.specs.Prelude.{None}
use Rattle.arith.proofs.Widths.{fits_mag, fits_i64}
use Rattle.arith.proofs.Products.{all_append}
use Rattle.arith.proofs.Powers.{one_bit_below, power_is, power_only}

-- It is how the language reads the bits of an i64,
pub signed_is : (b : ℕ) → signed_of b ≡ to_z w64 b
unfolding signed_of
signed_is b = by (ltb b (2 ^ 63))
  where
    by : (t : Bool) → cond t (pos b) (negsuc (2 ^ 64 - suc b)) ≡ sel t (pos b) (negsuc (2 ^ 64 - suc b))
    by true = refl
    by false = refl

-- and how it writes them.
pub bits_is : (z : ℤ) → bits_of z ≡ of_z w64 z
unfolding bits_of
bits_is (pos n) = refl
bits_is (negsuc n) = refl

-- An i64 comes back from its bits.
pub signed_of_bits : (z : ℤ) → fits_width 64 z ≡ true → signed_of (bits_of z) ≡ z
unfolding signed_of bits_of
signed_of_bits (pos n) e = let h = fits_i64 (pos n) e in rw (lt-ltb n (2 ^ 63) h)
signed_of_bits (negsuc n) e =
    let h = fits_i64 (negsuc n) e in
    rw (le-ltb (2 ^ 64 - suc n) (2 ^ 63) (omega arith)) (ap negsuc (omega arith))

-- 64 bits come back from their number.
pub bits_of_signed : (b : ℕ) → b < 2 ^ 64 → bits_of (signed_of b) ≡ b
unfolding signed_of bits_of
bits_of_signed b h = by (ltb b (2 ^ 63))
  where
    by : (t : Bool) → bits_of (cond t (pos b) (negsuc (2 ^ 64 - suc b))) ≡ b
    by true = refl
    by false = omega arith

-- Once a partial product has left i64, so has the product of every longer list.
pub left_stays_left : (xs ys : List ℤ) → product_of xs ≡ None → product_of (xs ++ ys) ≡ None
unfolding product_of
left_stays_left xs ys e = all_append (pos 1) xs ys ∙ rw e

-- Each power of two below 2^64 is one.
pub power_of_two_is : (k : ℕ) → k < 64 → is_power_of_two (2 ^ k) ≡ true
unfolding is_power_of_two
power_of_two_is k h = power_is 64 k h

-- And nothing else is.
pub power_of_two_only : (x : ℕ) → is_power_of_two x ≡ true → (k : ℕ) × (k < 64) × (x ≡ 2 ^ k)
unfolding is_power_of_two
power_of_two_only x e = power_only 64 x e

-- They are the numbers of 64 bits of which one is set.
pub one_bit : (x : ℕ) → x < 2 ^ 64 → eqb (ones x) 1 ≡ is_power_of_two x
unfolding is_power_of_two
one_bit x h = one_bit_below 64 x h

-- No number fits 0 bits.
pub zero_bits_hold_nothing : (v : ℤ) → fits_width 0 v ≡ false
zero_bits_hold_nothing v = fits_mag 0 v

-- Every i64, as the language has it, fits 64 bits or more.
pub sixty_four_bits_hold_every_i64 : (b : ℕ) {v : ℤ} → 64 ≤ b → SFits w64 v → fits_width b v ≡ true
sixty_four_bits_hold_every_i64 b {v} h f =
    let p : 2 ^ 63 ≤ 2 ^ (b - 1) = pow_mono {i = 63} {j = b - 1} (omega arith) in
    let s = f.sfits in
    fits_mag b v ∙ simp (lt-ltb 0 b (omega arith), le-leb (mag v) (2 ^ (b - 1) - 1) (omega arith))
