-- A test of pairs along two lists is one of the list of pairs, as the Rust zips.
use mathlib.Core.Path.{◌≡◌, refl, ap}
use mathlib.Core.Bool.{Bool, true, false, ◌&&◌, ◌||◌}
use mathlib.Core.List.{List, [], ◌∷◌, map}
use lib.Dec.{eqb, eqb-suc-suc}
use lib.IntN.{ℤ}
use lib.ListN.{length}
use lib.Pointwise.{pointwise}
use Prim.Native.Nat.{suc}
use native.Mathlib.Omega.{arith}
use borrow.Author.Tests.{ne_eqb}
use Rattle.std.proofs.Common.{int_eq}
use Rattle.std.proofs.lemmas.Bool.Decides.{same_from_decides, Decides-int_eq}
use Rattle.tiles.proofs.Equal.{eq_z_refl, eq_z_true}
use Rattle.std.specs.List.{list_any, list_all, zip}
use Rattle.tiles.specs.Shape.{eq_z, any_pair, all_pairs}

module _ (p : ℤ → ℤ → Bool) where
  pub any_zip : (xs ys : List ℤ) → list_any (λ z. p z.0 z.1) (zip xs ys) ≡ any_pair p xs ys
  unfolding any_pair
  any_zip [] ys = refl
  any_zip (x ∷ xs) [] = refl
  any_zip (x ∷ xs) (y ∷ ys) = ap (λ (b : Bool). p x y || b) (any_zip xs ys)

  pub all_zip : (xs ys : List ℤ) → list_all (λ z. p z.0 z.1) (zip xs ys) ≡ all_pairs p xs ys
  unfolding all_pairs
  all_zip [] ys = refl
  all_zip (x ∷ xs) [] = refl
  all_zip (x ∷ xs) (y ∷ ys) = ap (λ (b : Bool). p x y && b) (all_zip xs ys)

-- the same, where the first list is read through a function
pub any_zip_map : {A : Type 0} (f : A → ℤ) (p : ℤ → ℤ → Bool) (xs : List A) (ys : List ℤ) → list_any (λ z. p (f z.0) z.1) (zip xs ys) ≡ any_pair p (map f xs) ys
unfolding any_pair
any_zip_map f p [] ys = refl
any_zip_map f p (x ∷ xs) [] = refl
any_zip_map f p (x ∷ xs) (y ∷ ys) = ap (λ (b : Bool). p (f x) y || b) (any_zip_map f p xs ys)

-- two lists are equal where they are as long and each pair is
int_eq_is : (x y : ℤ) → int_eq x y ≡ eq_z x y
int_eq_is x y = same_from_decides (int_eq x y) (eq_z x y) (Decides-int_eq x y) (eq_z_true x y, λ e. rw e (eq_z_refl y))

swap : (b l p : Bool) → (b && (l && p)) ≡ (l && (b && p))
swap true l p = refl
swap false true p = refl
swap false false p = refl

pub pointwise_is : (xs ys : List ℤ) → pointwise int_eq xs ys ≡ (eqb (length xs) (length ys) && all_pairs eq_z xs ys)
unfolding all_pairs
pointwise_is [] [] = refl
pointwise_is [] (y ∷ ys) = rw (ne_eqb 0 (suc (length ys)) (λ e. absurd (omega arith)))
pointwise_is (x ∷ xs) [] = rw (ne_eqb (suc (length xs)) 0 (λ e. absurd (omega arith)))
pointwise_is (x ∷ xs) (y ∷ ys) =
    rw (int_eq_is x y, pointwise_is xs ys, eqb-suc-suc (length xs) (length ys)) (swap (eq_z x y) (eqb (length xs) (length ys)) (all_pairs eq_z xs ys))
