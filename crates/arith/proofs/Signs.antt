-- What the sign of a number says of its size, and which sums, quotients and remainders are an i64.
use mathlib.Core.Path.{◌≡◌, refl, sym, subst, ap, ◌∙◌}
use mathlib.Core.Bool.{true, false}
use Prim.Native.Nat.{ℕ, zero, suc, ◌+◌, ◌≤◌, ◌<◌, ◌/◌, ◌^◌, zero-le}
use native.Mathlib.Nat.{div-le_self, le_of_suc-le-suc, not-suc-le-zero, le-suc}
use native.Mathlib.Numerals.{add-one}
use native.Mathlib.Omega.{arith}
use lib.IntN.{ℤ, pos, negsuc, neg_ℤ, suc_ℤ, pred_ℤ, nat_abs, ◌+ℤ◌, ◌-ℤ◌, +ℤ_one, -ℤ_one, +ℤ_idl, neg_ℤ-suc_ℤ}
use lib.Dec.{T, ltb}
use lib.Signed.{lt_z, mag, quot_z, rem_z, mag_rem}
use borrow.Author.Tests.{ltb-true}
use mir.Syntax.{w64}
use mir.Val.{SFits, of_z}
use mir.ValLaws.{sfits_le}

no_true {ℓ} : {X : Type ℓ} → false ≡ true → X
no_true e = absurd (subst T (sym e) tt)

-- no natural number is below 0
clash_zero {ℓ} : {X : Type ℓ} (n : ℕ) → ltb n 0 ≡ true → X
clash_zero n e = absurd (not-suc-le-zero (ltb-true n 0 e))

pub sign_neg : (a : ℤ) → lt_z a (pos 0) ≡ true → a ≡ negsuc (mag a)
sign_neg (pos n) e = clash_zero n e
sign_neg (negsuc n) e = refl

pub sign_pos : (a : ℤ) → lt_z a (pos 0) ≡ false → a ≡ pos (mag a)
sign_pos (pos n) e = refl
sign_pos (negsuc n) e = no_true (sym e)

-- ---- division

-- a number above 0 has bits above 0
pub bits_pos : (s : ℤ) → lt_z (pos 0) s ≡ true → 0 < of_z w64 s
bits_pos (pos n) e = ltb-true 0 n e
bits_pos (negsuc n) e = no_true e

-- the size of a negated number, less 1
pub mag_neg : (r a : ℕ) → r ≤ suc a → mag (neg_ℤ (pos r)) ≤ a
mag_neg zero a h = zero-le
mag_neg (suc r) a h = le_of_suc-le-suc h

mag_quot : (l s : ℤ) → lt_z (pos 0) s ≡ true → mag (quot_z l s) ≤ mag l
mag_quot (pos a) (pos b) e = div-le_self a b
mag_quot (negsuc a) (pos b) e = mag_neg (suc a / b) a (div-le_self (suc a) b)
mag_quot l (negsuc b) e = no_true e

-- a quotient by a number above 0 fits where the dividend does
pub quot_fits : {l : ℤ} (s : ℤ) → SFits w64 l → lt_z (pos 0) s ≡ true → SFits w64 (quot_z l s)
quot_fits {l} s f e = sfits_le (mag_quot l s e) f

pub rem_fits : {l : ℤ} (s : ℤ) → SFits w64 l → SFits w64 (rem_z l s)
rem_fits {l} s f = sfits_le (mag_rem l s) f

-- ---- the size of a negative number: -(a + 1), and 1 more

pub up_fits : (a : ℤ) → lt_z a (pos 0) ≡ true → SFits w64 a → SFits w64 (a +ℤ pos 1)
up_fits (pos n) e f = clash_zero n e
up_fits (negsuc n) e f = sfits_le (rw +ℤ_one (mag_up n)) f
  where
    mag_up : (n : ℕ) → mag (suc_ℤ (negsuc n)) ≤ n
    mag_up zero = zero-le
    mag_up (suc n) = le-suc n

pub turn : (a : ℤ) → lt_z a (pos 0) ≡ true → pos 0 -ℤ (a +ℤ pos 1) ≡ pos (mag a)
turn (pos n) e = clash_zero n e
turn (negsuc n) e = +ℤ_idl _ ∙ ap neg_ℤ (+ℤ_one (negsuc n)) ∙ neg_ℤ-suc_ℤ (negsuc n)

pub mag_fits : (a : ℤ) → SFits w64 a → SFits w64 (pos (mag a))
mag_fits (pos n) f = f
mag_fits (negsuc n) f = record { sfits = f.sfits }

pub nat_abs_neg : (a : ℤ) → lt_z a (pos 0) ≡ true → mag a + 1 ≡ nat_abs a
nat_abs_neg (pos n) e = clash_zero n e
nat_abs_neg (negsuc n) e = add-one n

-- ---- 0 - k and then - 1: the least number where k is the greatest

pub neg_fits : (k : ℕ) → k < 2 ^ 63 → SFits w64 (pos 0 -ℤ pos k)
neg_fits k h = rw +ℤ_idl (sfits_le {z = pos k} (mag_neg k k (omega arith)) (record { sfits = h }))

pub least_is : (k : ℕ) → pos 0 -ℤ pos k -ℤ pos 1 ≡ negsuc k
least_is k = -ℤ_one (pos 0 -ℤ pos k) ∙ ap pred_ℤ (+ℤ_idl (neg_ℤ (pos k))) ∙ down k
  where
    down : (k : ℕ) → pred_ℤ (neg_ℤ (pos k)) ≡ negsuc k
    down zero = refl
    down (suc k) = refl
