-- Going along the numbers below a count: what is left, its start, a step and its end; and a search along it, for any property: a step,
-- a stop and the end, what a search that finds tells and one that does not. Assumes nothing.
use Prim.Native.Nat.{ℕ, zero, suc, ◌+◌, ◌-◌, ◌≤◌, ◌<◌}
use native.Mathlib.Numerals.{add-one}
use native.Mathlib.Omega.{arith}
use mathlib.Core.Path.{◌≡◌, refl, sym, ap, subst, ◌∙◌}
use mathlib.Core.Bool.{Bool, true, false, cond, false≢true}
use mathlib.Core.List.{List, [], ◌∷◌}
use mathlib.Core.Option.{some, none}
use lib.Dec.{eqb}
use borrow.Author.Tests.{eqb-true, eqb-false}
use Rattle.cells.specs.Lists.{from, below, find}

-- what is left of the numbers below n, from i on
abbrev pub later : ℕ → ℕ → List ℕ
later n i = from i (n - i)

pub later_start : (n : ℕ) → later n 0 ≡ below n
later_start n = let e : n - 0 ≡ n = omega arith in rw e

module _ (n i : ℕ) where
  pub later_step : i < n → later n i ≡ i ∷ later n (i + 1)
  later_step h = let e : n - i ≡ suc (n - (i + 1)) = omega arith in rw (e, add-one i)

  pub later_end : n ≤ i → later n i ≡ []
  later_end h = let e : n - i ≡ 0 = omega arith in rw e

-- a search along them
module _ (p : ℕ → Bool) (n i : ℕ) where
  pub find_step : i < n → p i ≡ false → find p (later n i) ≡ find p (later n (i + 1))
  find_step h e = rw (later_step n i h, e)

  pub find_stop : i < n → p i ≡ true → find p (later n i) ≡ some i
  find_stop h e = rw (later_step n i h, e)

  pub find_end : n ≤ i → find p (later n i) ≡ none
  find_end h = rw (later_end n i h)

-- the property matters only below the count
pub find_same : (p q : ℕ → Bool) (s n : ℕ) → ((i : ℕ) → s ≤ i → i < s + n → p i ≡ q i) → find p (from s n) ≡ find q (from s n)
find_same p q s zero f = refl
find_same p q s (suc n) f =
    rw (f s (omega arith) (omega arith), find_same p q (suc s) n (λ i g h. f i (omega arith) (omega arith)))

never : {A : Type 0} {a : A} → some a ≡ none → ⊥
never e = let z : ◌≡◌ {A = ℕ} 0 1 = cc in omega arith

-- nothing was found: none below the count has it
pub find_none : (p : ℕ → Bool) (s n i : ℕ) → find p (from s n) ≡ none → s ≤ i → i < s + n → p i ≡ false
find_none p s zero i e g h = absurd (omega arith)
find_none p s (suc n) i e g h = go (p s) refl e (find_none p (suc s) n i)
  where
    go : (t : Bool) → p s ≡ t → cond t (some s) (find p (from (suc s) n)) ≡ none
        → (find p (from (suc s) n) ≡ none → suc s ≤ i → i < suc s + n → p i ≡ false) → p i ≡ false
    go true t e f = absurd (never e)
    go false t e f = near (eqb s i) refl
      where
        near : (u : Bool) → eqb s i ≡ u → p i ≡ false
        near true u = subst (λ (j : ℕ). p j ≡ false) (eqb-true s i u) t
        near false u = let q : s ≡ i → ⊥ = eqb-false s i u in f e (omega (arith, q)) (omega arith)

-- the lowest that has it is found
pub find_at : (p : ℕ → Bool) (s n i : ℕ) → p i ≡ true → s ≤ i → i < s + n → ((j : ℕ) → s ≤ j → j < i → p j ≡ false) → find p (from s n) ≡ some i
find_at p s zero i e g h f = absurd (omega arith)
find_at p s (suc n) i e g h f = go (eqb s i) refl (find_at p (suc s) n i e)
  where
    go : (t : Bool) → eqb s i ≡ t
        → (suc s ≤ i → i < suc s + n → ((j : ℕ) → suc s ≤ j → j < i → p j ≡ false) → find p (from (suc s) n) ≡ some i)
        → cond (p s) (some s) (find p (from (suc s) n)) ≡ some i
    go true t r = let q : s ≡ i = eqb-true s i t in rw (q, e)
    go false t r =
        let q : s ≡ i → ⊥ = eqb-false s i t in
        rw (f s (omega arith) (omega (arith, q))) (r (omega (arith, q)) (omega arith) (λ j a b. f j (omega arith) b))

-- where one has it, that one or a lower is found
pub find_low : (p : ℕ → Bool) (s n i : ℕ) → p i ≡ true → s ≤ i → i < s + n → (j : ℕ) × ((find p (from s n) ≡ some j) × (j ≤ i))
find_low p s zero i e g h = absurd (omega arith)
find_low p s (suc n) i e g h = go (p s) refl (find_low p (suc s) n i e)
  where
    go : (t : Bool) → p s ≡ t → (suc s ≤ i → i < suc s + n → (j : ℕ) × ((find p (from (suc s) n) ≡ some j) × (j ≤ i)))
        → (j : ℕ) × ((cond t (some s) (find p (from (suc s) n)) ≡ some j) × (j ≤ i))
    go true t r = (s, (refl, omega arith))
    go false t r =
        let q : s ≡ i → ⊥ = λ w. false≢true (sym t ∙ ap p w ∙ e) in
        r (omega (arith, q)) (omega arith)
