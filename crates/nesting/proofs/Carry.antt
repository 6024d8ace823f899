-- Two walks of one nesting: what is live in the one is carried to what is live in the other, visit by visit. Assumes nothing.
use Prim.Native.Nat.{ℕ, zero, suc}
use mathlib.Core.Path.{◌≡◌, refl, ap, ◌∙◌}
use mathlib.Core.List.{List, [], ◌∷◌, ◌++◌, map}
use Rattle.cells.specs.Lists.{flat}
use Rattle.tables.specs.Sizes.{max_depth}
use Rattle.nesting.specs.Shape.{Shape, Visit, visit, operation_visits, operations_visits, block_visits, region_visits, whole_visits}
use Rattle.nesting.proofs.Lists.{map_append}

module _ {X A B : Type 0} (g : A → B) (f : X → List A) (f' : X → List B) (h : (x : X) → f' x ≡ map g (f x)) where
  flat_carry : (xs : List X) → flat f' xs ≡ map g (flat f xs)
  flat_carry [] = refl
  flat_carry (x ∷ xs) = rw (h x, flat_carry xs, map_append g (f x) (flat f xs))

-- H carries what is live
abbrev pub carry : {A B : Type 0} → (List A → List B) → Visit A → Visit B
carry H u = visit u.op (H u.live)

pub record Carries {A B : Type 0} (H : List A → List B) (s : Shape A) (s' : Shape B) : Type 0 where
  pub nil : [] ≡ H []
  pub append : (xs ys : List A) → H (xs ++ ys) ≡ H xs ++ H ys
  pub functions : s'.functions ≡ s.functions
  pub regions : (i : ℕ) → s'.regions i ≡ s.regions i
  pub blocks : (k : ℕ) → s'.blocks k ≡ s.blocks k
  pub operations : (j : ℕ) → s'.operations j ≡ s.operations j
  pub arguments : (j : ℕ) → s'.arguments j ≡ H (s.arguments j)
  pub results : (i : ℕ) → s'.results i ≡ H (s.results i)
  pub inner : (i : ℕ) → s'.inner i ≡ H (s.inner i)

module _ {A B : Type 0} (H : List A → List B) (s : Shape A) (s' : Shape B) (c : Carries H s s') where
  module _ (f : List A → ℕ → List (Visit A)) (f' : List B → ℕ → List (Visit B))
      (ih : (live : List A) (k : ℕ) → f' (H live) k ≡ map (carry H) (f live k)) where
    operation_carry : (live : List A) (i : ℕ) → operation_visits f' s' (H live) i ≡ map (carry H) (operation_visits f s live i)
    unfolding operation_visits
    operation_carry live i =
        rw (c.inner i, c.regions i, ← c.append live (s.inner i))
        (ap (λ (r : List (Visit B)). visit i (H live) ∷ r)
        (flat_carry (carry H) (f (live ++ s.inner i)) (f' (H (live ++ s.inner i))) (ih (live ++ s.inner i)) (s.regions i)))

    operations_carry : (live : List A) (is : List ℕ) → operations_visits f' s' (H live) is ≡ map (carry H) (operations_visits f s live is)
    operations_carry live [] = refl
    operations_carry live (i ∷ is) =
        rw (
          operation_carry live i,
          c.results i,
          ← c.append live (s.results i),
          operations_carry (live ++ s.results i) is,
          map_append (carry H) (operation_visits f s live i) (operations_visits f s (live ++ s.results i) is),
        )

    block_carry : (live : List A) (j : ℕ) → block_visits f' s' (H live) j ≡ map (carry H) (block_visits f s live j)
    unfolding block_visits
    block_carry live j =
        rw (c.arguments j, c.operations j, ← c.append live (s.arguments j))
        (operations_carry (live ++ s.arguments j) (s.operations j))

  region_carry : (d : ℕ) (live : List A) (k : ℕ) → region_visits d s' (H live) k ≡ map (carry H) (region_visits d s live k)
  unfolding region_visits
  region_carry zero live k = refl
  region_carry (suc d) live k =
      rw (c.blocks k)
      (flat_carry (carry H) (block_visits (region_visits d s) s live) (block_visits (region_visits d s') s' (H live))
      (block_carry (region_visits d s) (region_visits d s') (region_carry d) live) (s.blocks k))

  pub whole_carry : whole_visits s' ≡ map (carry H) (whole_visits s)
  unfolding whole_visits
  whole_carry =
      ap (flat (λ f. flat (region_visits max_depth s' []) (s'.regions f))) c.functions
      ∙ flat_carry (carry H) (λ f. flat (region_visits max_depth s []) (s.regions f)) (λ f. flat (region_visits max_depth s' []) (s'.regions f))
      (λ f. rw (c.regions f)
      (flat_carry (carry H) (region_visits max_depth s []) (region_visits max_depth s' [])
      (λ k. ap (λ (z : List B). region_visits max_depth s' z k) c.nil ∙ region_carry max_depth [] k) (s.regions f)))
      s.functions
