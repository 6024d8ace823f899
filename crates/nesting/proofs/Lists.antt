-- Laws of lists: what is one of them, and what f gives of each entry. Assumes nothing.
use Prim.Native.Nat.{ℕ, zero, suc, ◌+◌, ◌<◌, ◌≤◌, zero-le, suc-le-suc}
use native.Mathlib.Nat.{le_of_suc-le-suc}
use native.Mathlib.Omega.{arith}
use mathlib.Core.Path.{◌≡◌, refl, ap, sym, ◌∙◌, subst}
use mathlib.Core.Bool.{Bool, true, false, ◌||◌}
use mathlib.Core.Logic.{◌⊎◌, inl, inr, ⊎_elim}
use mathlib.Core.List.{List, [], ◌∷◌, ◌++◌, map, append_assoc, append-nil}
use lib.ListN.{length}
use lib.Dec.{eqb}
use Rattle.cells.specs.Lists.{from, below, flat, mem}
use Rattle.nesting.specs.In.{In, here, later}

pub in_left : {A : Type 0} {p : A} {xs : List A} (ys : List A) → In p xs → In p (xs ++ ys)
in_left ys here = here
in_left ys (later h) = later (in_left ys h)

pub in_right : {A : Type 0} {p : A} (xs : List A) {ys : List A} → In p ys → In p (xs ++ ys)
in_right [] h = h
in_right (x ∷ xs) h = later (in_right xs h)

pub in_split : {A : Type 0} {p : A} (xs : List A) {ys : List A} → In p (xs ++ ys) → In p xs ⊎ In p ys
in_split [] h = inr h
in_split (x ∷ xs) here = inl here
in_split (x ∷ xs) (later h) = ⊎_elim (λ q. inl (later q)) (λ q. inr q) (in_split xs h)

length_in : {A : Type 0} {p : A} {xs : List A} → In p xs → 1 ≤ length xs
length_in here = suc-le-suc zero-le
length_in (later h) = suc-le-suc zero-le

pub in_none : {A : Type 0} {C : Type 0} {p : A} → In p [] → C
in_none h = absurd (omega (arith, length_in h))

pub in_single : {A : Type 0} {x y : A} → In y (x ∷ []) → y ≡ x
in_single here = refl
in_single (later h) = in_none h

pub in_flat : {A B : Type 0} {x : A} {p : B} {xs : List A} (f : A → List B) → In x xs → In p (f x) → In p (flat f xs)
in_flat f (here {xs}) h = in_left (flat f xs) h
in_flat f (later {x} {xs} g) h = in_right (f x) (in_flat f g h)

-- where an entry of flat f xs comes from
pub record From {A B : Type 0} (f : A → List B) (xs : List A) (y : B) : Type 0 where
  pub parent : A
  pub listed : In parent xs
  pub holds : In y (f parent)

pub from_flat : {A B : Type 0} (f : A → List B) (xs : List A) {y : B} → In y (flat f xs) → From f xs y
from_flat f [] h = in_none h
from_flat f (x ∷ xs) h =
    ⊎_elim
    (λ a. record { parent = x; listed = here; holds = a })
    (λ b. let r = from_flat f xs b in record { parent = r.parent; listed = later r.listed; holds = r.holds })
    (in_split (f x) h)

-- where an entry of map f xs comes from
pub record Source {A B : Type 0} (f : A → B) (xs : List A) (y : B) : Type 0 where
  pub it : A
  pub listed : In it xs
  pub is : f it ≡ y

pub in_map : {A B : Type 0} (f : A → B) (xs : List A) {y : B} → In y (map f xs) → Source f xs y
in_map f [] h = in_none h
in_map f (x ∷ xs) here = record { it = x; listed = here; is = refl }
in_map f (x ∷ xs) (later h) = let r = in_map f xs h in record { it = r.it; listed = later r.listed; is = r.is }

-- the numbers from s on
in_from : (s n d : ℕ) → d < n → In (s + d) (from s n)
in_from s zero d h = absurd (omega arith)
in_from s (suc n) zero h = let e : s + 0 ≡ s = omega arith in rw e here
in_from s (suc n) (suc d) h = let e : s + suc d ≡ suc s + d = omega arith in rw e (later (in_from (suc s) n d (le_of_suc-le-suc h)))

pub in_below : (n k : ℕ) → k < n → In k (below n)
in_below n k h = let e : 0 + k ≡ k = omega arith in subst (λ (x : ℕ). In x (from 0 n)) e (in_from 0 n k h)

pub from_least : (s n : ℕ) {x : ℕ} → In x (from s n) → s ≤ x
from_least s zero h = in_none h
from_least s (suc n) here = omega arith
from_least s (suc n) (later h) = omega (arith, from_least (suc s) n h)

from_most : (s n : ℕ) {x : ℕ} → In x (from s n) → x < s + n
from_most s zero h = in_none h
from_most s (suc n) here = omega arith
from_most s (suc n) (later h) = omega (arith, from_most (suc s) n h)

pub below_in : (n : ℕ) {x : ℕ} → In x (below n) → x < n
below_in n h = omega (arith, from_most 0 n h)

-- concatenation
pub flat_append : {A B : Type 0} (f : A → List B) (xs ys : List A) → flat f (xs ++ ys) ≡ flat f xs ++ flat f ys
flat_append f [] ys = refl
flat_append f (x ∷ xs) ys = ap (λ (r : List _). f x ++ r) (flat_append f xs ys) ∙ sym (append_assoc (f x) (flat f xs) (flat f ys))

pub flat_same : {A B : Type 0} (f g : A → List B) → ((x : A) → f x ≡ g x) → (xs : List A) → flat f xs ≡ flat g xs
flat_same f g h [] = refl
flat_same f g h (x ∷ xs) = rw (h x, flat_same f g h xs)

pub flat_flat : {A B C : Type 0} (f : B → List C) (g : A → List B) (xs : List A) → flat f (flat g xs) ≡ flat (λ x. flat f (g x)) xs
flat_flat f g [] = refl
flat_flat f g (x ∷ xs) = flat_append f (g x) (flat g xs) ∙ ap (λ (r : List _). flat f (g x) ++ r) (flat_flat f g xs)

pub flat_snoc : {A B : Type 0} (f : A → List B) (xs : List A) (x : A) → flat f (xs ++ (x ∷ [])) ≡ flat f xs ++ f x
flat_snoc f xs x = flat_append f xs (x ∷ []) ∙ ap (λ (r : List _). flat f xs ++ r) (append-nil (f x))

pub map_append : {A B : Type 0} (f : A → B) (xs ys : List A) → map f (xs ++ ys) ≡ map f xs ++ map f ys
map_append f [] ys = refl
map_append f (x ∷ xs) ys = ap (λ (r : List _). f x ∷ r) (map_append f xs ys)

pub map_map : {A B C : Type 0} (g : B → C) (f : A → B) (xs : List A) → map g (map f xs) ≡ map (λ x. g (f x)) xs
map_map g f [] = refl
map_map g f (x ∷ xs) = ap (λ (r : List _). g (f x) ∷ r) (map_map g f xs)

pub flat_map : {A B C : Type 0} (g : B → List C) (f : A → B) (xs : List A) → flat g (map f xs) ≡ flat (λ x. g (f x)) xs
flat_map g f [] = refl
flat_map g f (x ∷ xs) = ap (λ (r : List _). g (f x) ++ r) (flat_map g f xs)

-- the test of being one of a list
or_assoc : (a b c : Bool) → (a || b) || c ≡ a || (b || c)
or_assoc true b c = refl
or_assoc false b c = refl

pub mem_append : (v : ℕ) (xs ys : List ℕ) → mem v (xs ++ ys) ≡ mem v xs || mem v ys
mem_append v [] ys = refl
mem_append v (x ∷ xs) ys = ap (λ (b : Bool). eqb x v || b) (mem_append v xs ys) ∙ sym (or_assoc (eqb x v) (mem v xs) (mem v ys))
