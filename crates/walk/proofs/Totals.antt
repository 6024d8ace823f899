-- Totals and counts over lists. The one law: a list that has no id more often than another, ids at which g is 0 apart, has no larger
-- total; so a list without doubles stays within the ids below n. Assumes nothing.
use Prim.Native.Nat.{ℕ, zero, suc, ◌+◌, ◌<◌, ◌≤◌}
use native.Mathlib.Omega.{arith}
use mathlib.Core.Path.{◌≡◌, refl, ap}
use mathlib.Core.Bool.{Bool, true, false, cond}
use mathlib.Core.Logic.{◌⊎◌, inl, inr, ⊎_elim}
use mathlib.Core.List.{List, [], ◌∷◌, ◌++◌}
use lib.ListN.{length}
use lib.Dec.{eqb}
use borrow.Author.Tests.{eq-eqb, ne_eqb, eqb-true, eqb-false}
use Rattle.cells.specs.Lists.{from, below, flat, count}
use Rattle.cells.proofs.Rows.{lt_or_ge}
use Rattle.walk.specs.Total.{total}

pub total_append : (g : ℕ → ℕ) (xs ys : List ℕ) → total g (xs ++ ys) ≡ total g xs + total g ys
total_append g [] ys = omega arith
total_append g (x ∷ xs) ys = omega (arith, total_append g xs ys)

pub total_flat : (g : ℕ → ℕ) (f : ℕ → List ℕ) (xs : List ℕ) → total g (flat f xs) ≡ total (λ x. total g (f x)) xs
total_flat g f [] = refl
total_flat g f (x ∷ xs) = omega (arith, total_append g (f x) (flat f xs), total_flat g f xs)

-- 1 at i, 0 elsewhere: a count is a total
abbrev pub hit : ℕ → ℕ → ℕ
hit i x = cond (eqb x i) 1 0

pub count_total : (i : ℕ) (xs : List ℕ) → count i xs ≡ total (hit i) xs
count_total i [] = refl
count_total i (x ∷ xs) = omega (arith, count_total i xs)

pub length_total : (xs : List ℕ) → length xs ≡ total (λ _. 1) xs
length_total [] = refl
length_total (x ∷ xs) = omega (arith, length_total xs)

-- zs with its first y taken out
abbrev without : ℕ → List ℕ → List ℕ
without y [] = []
without y (z ∷ zs) = cond (eqb z y) zs (z ∷ without y zs)

total_without : (g : ℕ → ℕ) (y : ℕ) (zs : List ℕ) → 1 ≤ count y zs → total g zs ≡ g y + total g (without y zs)
total_without g y [] h = absurd (omega arith)
total_without g y (z ∷ zs) h = go (eqb z y) refl (total_without g y zs) h
  where
    go : (b : Bool) → eqb z y ≡ b → (1 ≤ count y zs → total g zs ≡ g y + total g (without y zs)) → 1 ≤ cond b 1 0 + count y zs
        → g z + total g zs ≡ g y + total g (cond b zs (z ∷ without y zs))
    go true e k h = omega (arith, ap g (eqb-true z y e))
    go false e k h = omega (arith, k (omega arith))

count_without : (i y : ℕ) (zs : List ℕ) → 1 ≤ count y zs → count i zs ≡ hit i y + count i (without y zs)
count_without i y zs h = omega (arith, count_total i zs, count_total i (without y zs), total_without (hit i) y zs h)

hit_same : (i : ℕ) → hit i i ≡ 1
hit_same i = rw (eq-eqb i i refl)

pub no_more : (g : ℕ → ℕ) (ys zs : List ℕ) → ((i : ℕ) → (count i ys ≤ count i zs) ⊎ (g i ≡ 0)) → total g ys ≤ total g zs
no_more g [] zs s = omega arith
no_more g (y ∷ ys) zs s = ⊎_elim
    (λ h. let k : 1 ≤ count y zs = omega (arith, hit_same y) in
    omega (
      arith,
      total_without g y zs k,
      no_more g ys (without y zs) (λ i. ⊎_elim (λ m. inl (omega (arith, count_without i y zs k))) (λ z. inr z) (s i)),
    ))
    (λ h. omega (arith, no_more g ys zs (λ i. ⊎_elim (λ m. inl (omega arith)) (λ z. inr z) (s i))))
    (s y)

count_past : (i s n : ℕ) → i < s → count i (from s n) ≡ 0
count_past i s zero h = refl
count_past i s (suc n) h = rw (ne_eqb s i (λ e. omega arith)) (omega (arith, count_past i (suc s) n (omega arith)))

count_from_lem : (i s n : ℕ) → s ≤ i → i < s + n → count i (from s n) ≡ 1
count_from_lem i s zero h k = absurd (omega arith)
count_from_lem i s (suc n) h k = go (eqb s i) refl (count_from_lem i (suc s) n)
  where
    go : (b : Bool) → eqb s i ≡ b → (suc s ≤ i → i < suc s + n → count i (from (suc s) n) ≡ 1) → cond b 1 0 + count i (from (suc s) n) ≡ 1
    go true e r = let q : s ≡ i = eqb-true s i e in omega (arith, count_past i (suc s) n (omega arith))
    go false e r = let q : s ≡ i → ⊥ = eqb-false s i e in omega (arith, r (omega (arith, q)) (omega arith))

pub count_below : (i n : ℕ) → i < n → count i (below n) ≡ 1
count_below i n h = count_from_lem i 0 n (omega arith) (omega arith)

length_from : (s n : ℕ) → length (from s n) ≡ n
length_from s zero = refl
length_from s (suc n) = ap suc (length_from (suc s) n)

pub length_below : (n : ℕ) → length (below n) ≡ n
length_below n = length_from 0 n

-- no id twice, and nothing to count from n on
pub within_below : (g : ℕ → ℕ) (ys : List ℕ) (n : ℕ) → ((i : ℕ) → count i ys ≤ 1) → ((i : ℕ) → n ≤ i → g i ≡ 0) → total g ys ≤ total g (below n)
within_below g ys n once past =
    no_more g ys (below n) (λ i. ⊎_elim (λ h. inl (omega (arith, once i, count_below i n h))) (λ h. inr (past i h)) (lt_or_ge i n))

-- so what a list without doubles lists is no more than what the ids below n list, where the others list nothing
pub flat_within : (g : ℕ → ℕ) (f : ℕ → List ℕ) (ys : List ℕ) (n : ℕ) → ((i : ℕ) → count i ys ≤ 1) → ((i : ℕ) → n ≤ i → f i ≡ [])
    → total g (flat f ys) ≤ total g (flat f (below n))
flat_within g f ys n once past =
    omega (
      arith,
      total_flat g f ys,
      total_flat g f (below n),
      within_below (λ i. total g (f i)) ys n once (λ i h. ap (total g) (past i h)),
    )

pub count_within : (f : ℕ → List ℕ) (ys : List ℕ) (n : ℕ) → ((i : ℕ) → count i ys ≤ 1) → ((i : ℕ) → n ≤ i → f i ≡ [])
    → (i : ℕ) → count i (flat f ys) ≤ count i (flat f (below n))
count_within f ys n once past i =
    omega (arith, count_total i (flat f ys), count_total i (flat f (below n)), flat_within (hit i) f ys n once past)
