-- The search for the first name that has the bytes, as `position` answers it; and what the name of a number is, none past the last.
use mathlib.Core.Path.{◌≡◌, refl, ap, sym, ◌∙◌}
use mathlib.Core.List.{List, [], ◌∷◌, map}
use mathlib.Core.Bool.{Bool, true, false, cond, ◌&&◌}
use Prim.Native.Nat.{ℕ, zero, suc, ◌+◌, ◌≤◌, ◌<◌}
use native.Mathlib.Numerals.{add-one}
use native.Mathlib.Omega.{arith}
use lib.ListN.{get_or, get_or-eq_default}
use lib.Dec.{eqb}
use Rattle.std.specs.Prelude.{Option, Some, None}
use Rattle.std.specs.List.{position, position_from}
use Rattle.std.proofs.lemmas.Iterator.Adapters.{position_from-zero}
use Rattle.std.specs.Str.{bytes_eq}
use Rattle.names.specs.Names.{equal, names, number_from}

equal_is : (xs ys : List ℕ) → bytes_eq xs ys ≡ equal xs ys
equal_is [] [] = refl
equal_is [] (y ∷ ys) = refl
equal_is (x ∷ xs) [] = refl
equal_is (x ∷ xs) (y ∷ ys) = ap (λ (t : Bool). eqb x y && t) (equal_is xs ys)

-- the number that a place stands for
abbrev pub number_at : Option ℕ → ℕ
number_at None = 0
number_at (Some k) = k + 1

module _ {A : Type 0} (text : A → List ℕ) (name : List ℕ) where
  abbrev has : A → Bool
  has n = bytes_eq name (text n)

  turn : (t : Bool) (i : ℕ) (r : Option ℕ) → number_at (cond t (Some i) r) ≡ cond t (i + 1) (number_at r)
  turn true i r = refl
  turn false i r = refl

  number_is : (i : ℕ) (ns : List A) → number_at (position_from has i ns) ≡ number_from (i + 1) (map text ns) name
  number_is i [] = refl
  number_is i (n ∷ ns) =
      turn (has n) i (position_from has (i + 1) ns) ∙ rw (equal_is name (text n), number_is (i + 1) ns, add-one (i + 1))

  -- the number of the place that `position` answers of a list
  pub first_is : {given ns : List A} {r : Option ℕ} → given ≡ ns → r ≡ position has ns → number_at r ≡ number_from 1 (map text ns) name
  first_is {given} {ns} l e = ap number_at (e ∙ position_from-zero has ns) ∙ number_is 0 ns

-- the name with this number; no bytes where there is none
abbrev pub name_of : ℕ → List ℕ
name_of number = get_or ([] ∷ names) number []

-- what is said of a number's name is said of the number that equals it
pub named : {r : Bool} (name : List ℕ) {number k : ℕ} → number ≡ k → r ≡ equal name (name_of k) → r ≡ equal name (name_of number)
named name e h = h ∙ ap (λ (n : ℕ). equal name (name_of n)) (sym e)

-- a number that is none of 1 to k
abbrev pub NoneOf : ℕ → ℕ → Type 0
NoneOf zero number = Unit
NoneOf (suc k) number = NoneOf k number × (number ≡ suc k → ⊥)

beyond : (k : ℕ) {number : ℕ} → NoneOf k number → 1 ≤ number → k < number
beyond zero h l = l
beyond (suc k) h l = let b = beyond k h.0 l in let d = h.1 in omega arith

pub unnamed : (number : ℕ) → NoneOf 13 number → name_of number ≡ []
unfolding names
unnamed zero h = refl
unnamed (suc n) h = let past : 13 < suc n = beyond 13 h (omega arith) in get_or-eq_default names [] {n = n} (omega arith)
