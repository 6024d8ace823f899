-- The powers of two below 2 ^ d: which numbers they are, and that they are those with one set bit.
use mathlib.Core.Path.{◌≡◌, refl, sym, ap, ◌∙◌}
use mathlib.Core.Bool.{Bool, true, false, ◌||◌, or-true, false≢true}
use mathlib.Core.Logic.{◌⊎◌, inl, inr, ⊎_elim}
use Prim.Native.Nat.{ℕ, zero, suc, ◌+◌, ◌-◌, ◌*◌, ◌%◌, ◌^◌, ◌≤◌, ◌<◌}
use native.Mathlib.Nat.{one-mul, pow-suc, mod-eq_of_lt}
use native.Mathlib.Omega.{arith}
use lib.Dec.{eqb, ltb}
use lib.Pow.{pow_pos, pow-lt}
use lib.Count.{ones, ones_in, ones_cat}
use borrow.Author.Tests.{eq-eqb, ne_eqb, eqb-true, ltb-true, ltb-false}
use Rattle.arith.specs.Power.{power_below}

by_test : (a b : ℕ) (t : Bool) → ltb a b ≡ t → (a < b) ⊎ (b ≤ a)
by_test a b true e = inl (ltb-true a b e)
by_test a b false e = inr (ltb-false a b e)

lt_or_ge : (a b : ℕ) → (a < b) ⊎ (b ≤ a)
lt_or_ge a b = by_test a b (ltb a b) refl

-- a shifted 1 is a power
pub shifted : (k : ℕ) → k < 64 → (1 * 2 ^ k) % 2 ^ 64 ≡ 2 ^ k
shifted k h = rw one-mul (mod-eq_of_lt (pow-lt h))

-- no power below 2 ^ d is 2 ^ d or more
pow_above : (d n : ℕ) → 2 ^ d ≤ n → power_below d n ≡ false
unfolding power_below
pow_above zero n h = refl
pow_above (suc d) n h =
    let e : 2 ^ suc d ≡ 2 ^ d * 2 = pow-suc 2 d in
    let p = pow_pos d in
    simp (ne_eqb n (2 ^ d) (omega arith)) (pow_above d n (omega arith))

ones_one : ones 1 ≡ 1
unfolding ones ones_in
ones_one = refl

ones_zero : ones 0 ≡ 0
unfolding ones ones_in
ones_zero = refl

-- the top digit set: the rest is what is above it
top : (d n : ℕ) → 2 ^ d ≤ n → n < 2 ^ suc d → ones n ≡ 1 + ones (n - 2 ^ d)
top d n h k =
    let e : 2 ^ suc d ≡ 2 ^ d * 2 = pow-suc 2 d in
    let s : n ≡ 1 * 2 ^ d + (n - 2 ^ d) = omega arith in
    ap ones s ∙ ones_cat d 1 (n - 2 ^ d) (omega arith) ∙ simp ones_one

some : (d n : ℕ) → n < 2 ^ d → 0 < n → 0 < ones n
some zero n h k = absurd (omega arith)
some (suc d) n h k =
    ⊎_elim (λ l. some d n l k) (λ g. let e = top d n g h in omega arith) (lt_or_ge n (2 ^ d))

module _ (d n : ℕ) (h : n < 2 ^ suc d) where
  -- the same one digit further up
  low : n < 2 ^ d → eqb (ones n) 1 ≡ power_below d n → eqb (ones n) 1 ≡ (eqb n (2 ^ d) || power_below d n)
  low l i = simp (ne_eqb n (2 ^ d) (omega arith)) i

  rest : (r : ℕ) → r ≡ n - 2 ^ d → 2 ^ d ≤ n → eqb (ones n) 1 ≡ (eqb n (2 ^ d) || power_below d n)
  rest zero e g =
      let z : n ≡ 2 ^ d = omega arith in
      simp (eq-eqb n (2 ^ d) z) (eq-eqb (ones n) 1 (top d n g h ∙ ap (λ (r : ℕ). 1 + ones r) (sym e) ∙ simp ones_zero))
  rest (suc r) e g =
      let q : 2 ^ suc d ≡ 2 ^ d * 2 = pow-suc 2 d in
      let t = top d n g h in
      let s = some d (n - 2 ^ d) (omega arith) (omega arith) in
      simp (ne_eqb n (2 ^ d) (omega arith), pow_above d n g) (ne_eqb (ones n) 1 (omega arith))

pub one_bit_below : (d n : ℕ) → n < 2 ^ d → eqb (ones n) 1 ≡ power_below d n
unfolding power_below
one_bit_below zero n h = let z : n ≡ 0 = omega arith in rw z (simp ones_zero)
one_bit_below (suc d) n h =
    ⊎_elim (λ l. low d n h l (one_bit_below d n l)) (λ g. rest d n h (n - 2 ^ d) refl g) (lt_or_ge n (2 ^ d))

module _ (d k : ℕ) (h : k < suc d) where
  found : (k < d → power_below d (2 ^ k) ≡ true) → (eqb (2 ^ k) (2 ^ d) || power_below d (2 ^ k)) ≡ true
  found i =
      ⊎_elim (λ l. rw (i l, or-true)) (λ g. let e : k ≡ d = omega arith in rw (eq-eqb (2 ^ k) (2 ^ d) (ap (λ (j : ℕ). 2 ^ j) e)))
      (lt_or_ge k d)

pub power_is : (d k : ℕ) → k < d → power_below d (2 ^ k) ≡ true
unfolding power_below
power_is zero k h = absurd (omega arith)
power_is (suc d) k h = found d k h (power_is d k)

module _ (d x : ℕ) where
  one_of_lem : (t : Bool) → eqb x (2 ^ d) ≡ t → (t || power_below d x) ≡ true → (power_below d x ≡ true → (k : ℕ) × (k < d) × (x ≡ 2 ^ k)) → (k : ℕ) × (k < suc d) × (x ≡ 2 ^ k)
  one_of_lem true q e i = (d, omega arith, eqb-true x (2 ^ d) q)
  one_of_lem false q e i = let r = i e in (r.0, omega arith, r.2)

pub power_only : (d x : ℕ) → power_below d x ≡ true → (k : ℕ) × (k < d) × (x ≡ 2 ^ k)
unfolding power_below
power_only zero x e = absurd (false≢true e)
power_only (suc d) x e = one_of_lem d x (eqb x (2 ^ d)) refl e (power_only d x)
