-- A mask of 64 bits has none past them. Assumes nothing.
use Rattle.std.specs.Prelude.{◌≡◌, refl, ℕ, ◌/◌, ◌%◌, ◌^◌, ◌<◌, ◌≤◌, Bool, true, false, ◌&&◌, eqb, ltb}
use Rattle.std.proofs.Math.Nat.{div-eq_of_lt, pow-le-pow_right, lt_of_lt_of_le}
use native.Mathlib.Omega.{arith}

and-false : (b : Bool) → (b && false) ≡ false
and-false true = refl
and-false false = refl

pub past_bits : (width mask k : ℕ) → mask < 2 ^ 64 → 64 ≤ k → false ≡ (ltb k width && eqb (mask / 2 ^ k % 2) 1)
past_bits width mask k h past =
    let none : mask / 2 ^ k ≡ 0 = div-eq_of_lt (lt_of_lt_of_le h (pow-le-pow_right {n = 2} (omega arith) past)) in
    rw none (rw (and-false (ltb k width)) refl)
