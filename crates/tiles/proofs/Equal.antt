-- Tests of signed numbers: of their bits, of their signs, of a remainder.
use mathlib.Core.Path.{◌≡◌, refl, sym, ap, ◌∙◌}
use mathlib.Core.Bool.{Bool, true, false, not, cond, ◌||◌}
use Prim.Native.Nat.{ℕ, zero, suc, ◌^◌, ◌<◌}
use native.Mathlib.Omega.{arith}
use lib.Dec.{eqb, leb-suc-zero}
use lib.Signed.{lt_z, le_z, rem_z}
use lib.IntN.{ℤ, pos, negsuc}
use mir.Syntax.{w64}
use mir.Val.{SFits, of_z, to_z}
use mir.Facts.{to_z-of_z}
use borrow.Author.Tests.{eq-eqb, ne_eqb, eqb-true, eqb-false, lt-ltb}
use Rattle.arith.specs.Signed.{remainder_of}
use Rattle.std.specs.Prelude.{Some, None}
use Rattle.tiles.specs.Shape.{eq_z, undivided_by}

pub small_fits : (n : ℕ) → n < 2 ^ 63 → SFits w64 (pos n)
small_fits n h = record { sfits = h }

pub eq_z_refl : (x : ℤ) → eq_z x x ≡ true
unfolding eq_z
eq_z_refl (pos n) = eq-eqb n n refl
eq_z_refl (negsuc n) = eq-eqb n n refl

pub eq_z_true : (x y : ℤ) → eq_z x y ≡ true → x ≡ y
unfolding eq_z
eq_z_true (pos m) (pos n) e = ap pos (eqb-true m n e)
eq_z_true (pos m) (negsuc n) e = absurd (let z : ◌≡◌ {A = ℕ} 0 1 = cc in omega arith)
eq_z_true (negsuc m) (pos n) e = absurd (let z : ◌≡◌ {A = ℕ} 0 1 = cc in omega arith)
eq_z_true (negsuc m) (negsuc n) e = ap negsuc (eqb-true m n e)

bits_same : {x y : ℤ} → SFits w64 x → SFits w64 y → of_z w64 x ≡ of_z w64 y → eq_z x y ≡ true
bits_same {x} {y} f g e =
    let q : x ≡ y = sym (to_z-of_z f) ∙ ap (to_z w64) e ∙ to_z-of_z g in
    ap (λ (z : ℤ). eq_z x z) (sym q) ∙ eq_z_refl x

bits_other : (x y : ℤ) → (of_z w64 x ≡ of_z w64 y → ⊥) → eq_z x y ≡ false
unfolding eq_z
bits_other (pos m) (pos n) h = ne_eqb m n (λ e. h e)
bits_other (pos m) (negsuc n) h = refl
bits_other (negsuc m) (pos n) h = refl
bits_other (negsuc m) (negsuc n) h = ne_eqb m n (λ e. h (ap (λ (k : ℕ). of_z w64 (negsuc k)) e))

-- a test of the bits is a test of the numbers
pub bits_test : {x y : ℤ} → SFits w64 x → SFits w64 y → eqb (of_z w64 x) (of_z w64 y) ≡ eq_z x y
bits_test {x} {y} f g = by (eqb (of_z w64 x) (of_z w64 y)) refl
  where
    by : (t : Bool) → eqb (of_z w64 x) (of_z w64 y) ≡ t → eqb (of_z w64 x) (of_z w64 y) ≡ eq_z x y
    by true e = e ∙ sym (bits_same f g (eqb-true _ _ e))
    by false e = e ∙ sym (bits_other x y (eqb-false _ _ e))

pub bits_is : {x : ℤ} (n : ℕ) → SFits w64 x → n < 2 ^ 63 → eqb (of_z w64 x) n ≡ eq_z x (pos n)
bits_is n f h = bits_test f (small_fits n h)

-- ---- a remainder

at_most_zero : (s : ℤ) → le_z s (pos 0) ≡ not (lt_z (pos 0) s)
at_most_zero (pos zero) = refl
at_most_zero (pos (suc n)) = leb-suc-zero n ∙ ap not (sym (lt-ltb 0 (suc n) (omega arith)))
at_most_zero (negsuc n) = refl

module _ (s l : ℤ) where
  pub rest_is : (r : ℤ) → remainder_of l s ≡ Some r → undivided_by s l ≡ not (eq_z r (pos 0))
  unfolding undivided_by remainder_of
  rest_is r e = rw (at_most_zero s) (by (lt_z (pos 0) s) e)
    where
      by : (b : Bool) → cond b (Some (rem_z l s)) None ≡ Some r → (not b || not (eq_z (rem_z l s) (pos 0))) ≡ not (eq_z r (pos 0))
      by true e = let q : rem_z l s ≡ r = cc in rw q
      by false e = let z : ◌≡◌ {A = ℕ} 0 1 = cc in absurd (omega arith)

  pub no_divisor : remainder_of l s ≡ None → undivided_by s l ≡ true
  unfolding undivided_by remainder_of
  no_divisor e = rw (at_most_zero s) (by (lt_z (pos 0) s) e)
    where
      by : (b : Bool) → cond b (Some (rem_z l s)) None ≡ None → (not b || not (eq_z (rem_z l s) (pos 0))) ≡ true
      by true e = let z : ◌≡◌ {A = ℕ} 0 1 = cc in absurd (omega arith)
      by false e = refl
