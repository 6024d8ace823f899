-- An alignment is asked of the bits as of the number. Assumes nothing.
use Prim.Native.Nat.{ℕ, zero, suc, ◌-◌, ◌^◌}
use native.Mathlib.Omega.{arith}
use mathlib.Core.Path.{◌≡◌, refl, sym, ◌∙◌}
use mathlib.Core.Bool.{Bool, true, false, not, cond, ◌||◌}
use lib.Dec.{eqb, ltb, leb}
use lib.IntN.{ℤ, pos, negsuc}
use lib.Signed.{lt_z, le_z}
use borrow.Author.Tests.{le-ltb, lt-leb, ne_eqb}
use Rattle.arith.specs.Signed.{signed_of}
use Rattle.arith.specs.Power.{is_power_of_two}
use Rattle.rules_small.proofs.Either.{or_false, or_true}
use Rattle.rules_small.specs.Memory.{is_negative, is_misaligned}

-- the number, by whether its bits are in the lower half
abbrev by : Bool → ℕ → ℤ
by low b = cond low (pos b) (negsuc (2 ^ 64 - suc b))

no_more : (b : ℕ) → eqb b 0 ≡ leb b 0
no_more zero = refl
no_more (suc b) = ne_eqb (suc b) 0 (λ e. omega arith) ∙ sym (lt-leb (suc b) 0 (omega arith))

asked : (b natural : ℕ) (odd low : Bool) → ltb b (2 ^ 63) ≡ low
    → (eqb b 0 || lt_z (by low b) (pos 0) || odd || ltb b natural) ≡ (le_z (by low b) (pos 0) || odd || lt_z (by low b) (pos natural))
asked b natural odd true e = rw (le-ltb b 0 (omega arith), or_false (eqb b 0), no_more b)
asked b natural odd false e = rw (or_true (eqb b 0))

pub misaligned_by : (b natural : ℕ) → (eqb b 0 || is_negative b || not (is_power_of_two b) || ltb b natural) ≡ is_misaligned b natural
unfolding is_misaligned is_negative signed_of
misaligned_by b natural = asked b natural (not (is_power_of_two b)) (ltb b (2 ^ 63)) refl
