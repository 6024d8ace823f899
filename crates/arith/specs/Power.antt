-- Powers of two.
use Rattle.std.specs.Prelude.{ℕ, zero, suc, ◌^◌, Bool, false, ◌||◌, eqb}

-- x is 2^j for a j below k.
unfoldable pub power_below : ℕ → ℕ → Bool
power_below zero x = false
power_below (suc k) x = eqb x (2 ^ k) || power_below k x

-- x is one of the 64 powers of two that 64 bits hold; the Rust asks it of divisors, dims and alignments.
unfoldable pub is_power_of_two : ℕ → Bool
is_power_of_two x = power_below 64 x
