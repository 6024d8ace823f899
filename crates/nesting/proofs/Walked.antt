-- What is live at a visit was brought by the walk's shape, and an entry walk is a part of the whole one. Assumes nothing.
use Prim.Native.Nat.{ℕ, zero, suc, ◌-◌}
use mathlib.Core.Path.{sym, subst}
use mathlib.Core.Logic.{⊎_elim}
use mathlib.Core.List.{List, [], ◌∷◌, ◌++◌}
use Rattle.cells.specs.Lists.{flat}
use Rattle.tables.specs.Sizes.{max_depth}
use Rattle.nesting.specs.In.{In}
use Rattle.nesting.specs.Shape.{Shape, Visit, visit, operation_visits, operations_visits, block_visits, region_visits, whole_visits, first, entry_visits, entries_visits}
use Rattle.nesting.proofs.Lists.{in_none, in_single, in_left, in_right, in_split, from_flat}

-- P holds of all that is live
abbrev pub All : {A : Type 0} → (A → Type 0) → List A → Type 0
All P live = (p : _) → In p live → P p

pub all_append : {A : Type 0} (P : A → Type 0) (xs ys : List A) → All P xs → All P ys → All P (xs ++ ys)
all_append P xs ys f g p h = ⊎_elim (f p) (g p) (in_split xs h)

-- P holds of all that the shape brings
pub record Brings {A : Type 0} (P : A → Type 0) (s : Shape A) : Type 0 where
  pub arguments : (j : ℕ) → All P (s.arguments j)
  pub results : (i : ℕ) → All P (s.results i)
  pub inner : (i : ℕ) → All P (s.inner i)

module _ {A : Type 0} (P : A → Type 0) (s : Shape A) (b : Brings P s) where
  module _ (inside : List A → ℕ → List (Visit A))
      (ih : (live : List A) → All P live → (k : ℕ) (u : Visit A) → In u (inside live k) → All P u.live) where
    operation_all : (live : List A) → All P live → (i : ℕ) (u : Visit A) → In u (operation_visits inside s live i) → All P u.live
    unfolding operation_visits
    operation_all live a i u h =
        ⊎_elim
        (λ q. subst (λ (w : Visit A). All P w.live) (sym (in_single q)) a)
        (λ q. let f = from_flat (inside (live ++ s.inner i)) (s.regions i) q in
        ih (live ++ s.inner i) (all_append P live (s.inner i) a (b.inner i)) f.parent u f.holds)
        (in_split (visit i live ∷ []) h)

    operations_all : (live : List A) → All P live → (is : List ℕ) (u : Visit A) → In u (operations_visits inside s live is) → All P u.live
    operations_all live a [] u h = in_none h
    operations_all live a (i ∷ is) u h =
        ⊎_elim (operation_all live a i u) (operations_all (live ++ s.results i) (all_append P live (s.results i) a (b.results i)) is u)
        (in_split (operation_visits inside s live i) h)

    block_all : (live : List A) → All P live → (j : ℕ) (u : Visit A) → In u (block_visits inside s live j) → All P u.live
    unfolding block_visits
    block_all live a j u h =
        operations_all (live ++ s.arguments j) (all_append P live (s.arguments j) a (b.arguments j)) (s.operations j) u h

  region_all : (d : ℕ) (live : List A) → All P live → (k : ℕ) (u : Visit A) → In u (region_visits d s live k) → All P u.live
  unfolding region_visits
  region_all zero live a k u h = in_none h
  region_all (suc d) live a k u h =
      let f = from_flat (block_visits (region_visits d s) s live) (s.blocks k) h in
      block_all (region_visits d s) (region_all d) live a f.parent u f.holds

  pub whole_all : (u : Visit A) → In u (whole_visits s) → All P u.live
  unfolding whole_visits
  whole_all u h =
      let f = from_flat (λ (i : ℕ). flat (region_visits max_depth s []) (s.regions i)) s.functions h in
      let g = from_flat (region_visits max_depth s []) (s.regions f.parent) f.holds in
      region_all max_depth [] (λ p q. in_none q) g.parent u g.holds

-- ---- the entry walks

first_in_lem : {A B : Type 0} (f : A → List B) {y : B} (xs : List A) → In y (first f xs) → In y (flat f xs)
first_in_lem f [] h = h
first_in_lem f (x ∷ xs) h = in_left (flat f xs) h

first_grow : {A B : Type 0} (f g : A → List B) {y : B} → ((x : A) → In y (f x) → In y (g x)) → (xs : List A) → In y (first f xs)
    → In y (first g xs)
first_grow f g k [] h = h
first_grow f g k (x ∷ xs) h = k x h

flat_grow : {A B : Type 0} (f g : A → List B) {y : B} → ((x : A) → In y (f x) → In y (g x)) → (xs : List A) → In y (flat f xs)
    → In y (flat g xs)
flat_grow f g k [] h = h
flat_grow f g k (x ∷ xs) h = ⊎_elim (λ p. in_left (flat g xs) (k x p)) (λ p. in_right (g x) (flat_grow f g k xs p)) (in_split (f x) h)

-- what an entry walk visits, the whole walk visits, with the same live
pub entry_in : {A : Type 0} (s : Shape A) (u : Visit A) → In u (entries_visits s) → In u (whole_visits s)
unfolding entries_visits entry_visits whole_visits region_visits
entry_in s u h =
    flat_grow (entry_visits s) (λ f. flat (region_visits max_depth s []) (s.regions f))
    (λ f q. first_in_lem (region_visits max_depth s []) (s.regions f)
    (first_grow (λ k. first (block_visits (region_visits (max_depth - 1) s) s []) (s.blocks k)) (region_visits max_depth s [])
    (λ k p. first_in_lem (block_visits (region_visits (max_depth - 1) s) s []) (s.blocks k) p) (s.regions f) q))
    s.functions h
