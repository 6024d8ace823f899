-- Going through the numbers below n: a step and the end of what is left; a search for the first with a property, one
-- number at a time; what a search that finds nothing says, and two that find the same; and a test of all. Over any property. Assumes nothing.
use mathlib.Core.Path.{◌≡◌, refl, sym, ap, ◌∙◌}
use mathlib.Core.Bool.{Bool, true, false, ◌&&◌, not, cond, and-eq-true_iff}
use mathlib.Core.List.{List, [], ◌∷◌}
use mathlib.Core.Option.{some, none}
use mathlib.Core.Logic.{⊎_elim}
use Prim.Native.Nat.{ℕ, zero, suc, ◌+◌, ◌-◌, ◌≤◌, ◌<◌}
use native.Mathlib.Numerals.{add-one}
use native.Mathlib.Omega.{arith}
use borrow.Author.Tests.{not-false}
use lib.ListN.{length, get_or}
use Rattle.cells.specs.Lists.{from, below, find}
use Rattle.cells.proofs.Rows.{lt_or_ge}
use Rattle.std.specs.List.{list_all, range_with_len}
use Rattle.ranges.specs.Entry.{all}

-- the numbers from i on
pub from_step : (n i : ℕ) → i < n → from i (n - i) ≡ i ∷ from (i + 1) (n - (i + 1))
from_step n i h =
    let e : n - i ≡ suc (n - (i + 1)) = omega arith in
    ap (from i) e ∙ rw add-one

pub from_end : (n i : ℕ) → n ≤ i → from i (n - i) ≡ []
from_end n i h =
    let e : n - i ≡ 0 = omega arith in
    ap (from i) e

-- the first entry of a list, and the rest
module _ (p : ℕ → Bool) (x : ℕ) (xs : List ℕ) where
  find_here : p x ≡ true → find p (x ∷ xs) ≡ some x
  find_here e = ap (λ (b : Bool). cond b (some x) (find p xs)) e

  find_later : p x ≡ false → find p (x ∷ xs) ≡ find p xs
  find_later e = ap (λ (b : Bool). cond b (some x) (find p xs)) e

-- the library's test of all entries of a list is ours, and its numbers are ours
pub all_is : (p : ℕ → Bool) (xs : List ℕ) → list_all p xs ≡ all p xs
all_is p [] = refl
all_is p (x ∷ xs) = ap (λ (b : Bool). p x && b) (all_is p xs)

pub all_from : (p : ℕ → Bool) (s n : ℕ) → list_all p (range_with_len s n) ≡ all p (from s n)
all_from p s zero = refl
all_from p s (suc n) = rw (add-one s) (ap (λ (b : Bool). p s && b) (all_from p (suc s) n))

-- two properties that say the same find the same
pub find_same : (p q : ℕ → Bool) → ((x : ℕ) → p x ≡ q x) → (xs : List ℕ) → find p xs ≡ find q xs
find_same p q f [] = refl
find_same p q f (x ∷ xs) = rw (f x, find_same p q f xs)

-- a search among the numbers below n, i of them passed
module _ (p : ℕ → Bool) (n : ℕ) where
  abbrev pub Passed : ℕ → Type 0
  Passed i = (i ≤ n) × (find p (below n) ≡ find p (from i (n - i)))

  module _ (i : ℕ) (inv : Passed i) where
    pub pass_step : i < n → p i ≡ false → Passed (i + 1)
    pass_step h e = (omega arith, inv.1 ∙ ap (find p) (from_step n i h) ∙ find_later p i (from (i + 1) (n - (i + 1))) e)

    pub pass_stop : i < n → p i ≡ true → find p (below n) ≡ some i
    pass_stop h e = inv.1 ∙ ap (find p) (from_step n i h) ∙ find_here p i (from (i + 1) (n - (i + 1))) e

    pub pass_end : n ≤ i → find p (below n) ≡ none
    pass_end h = inv.1 ∙ ap (find p) (from_end n i h)

-- a search that finds nothing: no number has the property
find_none : (p : ℕ → Bool) (s n : ℕ) → find p (from s n) ≡ none → (i : ℕ) → s ≤ i → i < s + n → p i ≡ false
find_none p s zero e i h k = absurd (omega arith)
find_none p s (suc n) e i h k = by_test (p s) refl (λ r l. find_none p (suc s) n r i l (omega arith))
  where
    by_test : (b : Bool) → p s ≡ b → (find p (from (suc s) n) ≡ none → suc s ≤ i → p i ≡ false) → p i ≡ false
    by_test true q g = absurd (let z : some s ≡ none = sym (find_here p s (from (suc s) n) q) ∙ e in let y : ◌≡◌ {A = ℕ} 0 1 = cc in omega arith)
    by_test false q g = ⊎_elim
        (λ l. g (sym (find_later p s (from (suc s) n) q) ∙ e) (omega arith))
        (λ l. let y : i ≡ s = omega arith in ap p y ∙ q)
        (lt_or_ge s i)

-- and none that fails a test: all pass it
pub all_pass : (p : ℕ → Bool) (n : ℕ) → find (λ i. not (p i)) (below n) ≡ none → (i : ℕ) → i < n → p i ≡ true
all_pass p n e i h = not-false (p i) (find_none (λ k. not (p k)) 0 n e i (omega arith) (omega arith))

-- a list that passes a test passes it at every index
pub all_at : (p : ℕ → Bool) (xs : List ℕ) → all p xs ≡ true → (k : ℕ) → k < length xs → p (get_or xs k 0) ≡ true
all_at p [] e k h = absurd (omega arith)
all_at p (x ∷ xs) e zero h = ((and-eq-true_iff (p x) (all p xs)).0 e).0
all_at p (x ∷ xs) e (suc k) h = all_at p xs ((and-eq-true_iff (p x) (all p xs)).0 e).1 k (omega arith)
