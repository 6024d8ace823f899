-- Laws of counting, searching and reading by position. Assumes nothing.
use Prim.Native.Nat.{ℕ, zero, suc, ◌+◌, ◌≤◌}
use native.Mathlib.Omega.{arith}
use mathlib.Core.Path.{◌≡◌, refl, ap, sym, ◌∙◌}
use mathlib.Core.Bool.{Bool, true, false}
use mathlib.Core.Option.{Option, some, none}
use mathlib.Core.List.{List, [], ◌∷◌, ◌++◌}
use lib.Dec.{eqb}
use borrow.Author.Tests.{eq-eqb}
use Rattle.cells.specs.Lists.{count, find}
use Rattle.tables.specs.Place.{position_from}
use Rattle.nesting.specs.In.{In, here, later}
use Rattle.nesting.specs.Live.{nth}

pub count_append : (v : ℕ) (xs ys : List ℕ) → count v (xs ++ ys) ≡ count v xs + count v ys
count_append v [] ys = omega arith
count_append v (x ∷ xs) ys = omega (arith, count_append v xs ys)

pub count_in : {v : ℕ} {xs : List ℕ} → In v xs → 1 ≤ count v xs
count_in {v} (here {xs}) = rw (eq-eqb v v refl) (omega arith)
count_in (later h) = omega (arith, count_in h)

pub in_nth : {A : Type 0} (xs : List A) (k : ℕ) (v : A) → nth xs k ≡ some v → In v xs
in_nth [] k v e = let z : ◌≡◌ {A = ℕ} 0 1 = cc in absurd (omega arith)
in_nth (x ∷ xs) zero v e = let q : x ≡ v = cc in rw q here
in_nth (x ∷ xs) (suc k) v e = later (in_nth xs k v e)

-- what is found passes the test, and is one of the list
pub find_is : (p : ℕ → Bool) (xs : List ℕ) (v : ℕ) → find p xs ≡ some v → (p v ≡ true) × In v xs
find_is p [] v e = let z : ◌≡◌ {A = ℕ} 0 1 = cc in absurd (omega arith)
find_is p (x ∷ xs) v e = go (p x) refl (find_is p xs v)
  where
    go : (b : Bool) → p x ≡ b → (find p xs ≡ some v → (p v ≡ true) × In v xs) → (p v ≡ true) × In v (x ∷ xs)
    go true q h =
        let f : ◌≡◌ {A = Option ℕ} (some x) (some v) = rw q at e in
        let g : x ≡ v = cc in
        (ap p (sym g) ∙ q, rw g here)
    go false q h = let w = h (rw q at e) in (w.0, later w.1)

-- what is not listed has no position; what is listed once has its own
pub position_none : (v s : ℕ) (xs : List ℕ) → count v xs ≡ 0 → position_from s v xs ≡ none
position_none v s [] e = refl
position_none v s (x ∷ xs) e = go (eqb x v) refl (position_none v (suc s) xs)
  where
    go : (b : Bool) → eqb x v ≡ b → (count v xs ≡ 0 → position_from (suc s) v xs ≡ none) → position_from s v (x ∷ xs) ≡ none
    go true q h = let z : 1 + count v xs ≡ 0 = rw q at e in absurd (omega arith)
    go false q h = let z : 0 + count v xs ≡ 0 = rw q at e in rw q (h (omega arith))

pub position_is : (v s : ℕ) (xs : List ℕ) (k : ℕ) → nth xs k ≡ some v → count v xs ≤ 1 → position_from s v xs ≡ some (s + k)
position_is v s [] k e h = let z : ◌≡◌ {A = ℕ} 0 1 = cc in absurd (omega arith)
position_is v s (x ∷ xs) zero e h =
    let q : x ≡ v = cc in
    let a : s ≡ s + 0 = omega arith in
    rw (eq-eqb x v q) (ap some a)
position_is v s (x ∷ xs) (suc k) e h = go (eqb x v) refl (position_is v (suc s) xs k e)
  where
    go : (b : Bool) → eqb x v ≡ b → (count v xs ≤ 1 → position_from (suc s) v xs ≡ some (suc s + k))
        → position_from s v (x ∷ xs) ≡ some (s + suc k)
    go true q g =
        let z : 1 + count v xs ≤ 1 = rw q at h in
        absurd (omega (arith, count_in (in_nth xs k v e)))
    go false q g =
        let z : 0 + count v xs ≤ 1 = rw q at h in
        let a : suc s + k ≡ s + suc k = omega arith in
        rw q (g (omega arith) ∙ ap some a)
