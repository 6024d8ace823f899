-- The depth cuts nothing: where code 3 passes, dominance, numbering and reading back visit everything that is nested. A walk with any
-- larger depth is the same walk, and its operations are those of `walk/specs/Order`. Assumes nothing.
use Prim.Native.Nat.{ℕ, zero, suc, ◌-◌, ◌≤◌}
use native.Mathlib.Nat.{le_of_suc-le-suc}
use native.Mathlib.Omega.{arith}
use mathlib.Core.Path.{◌≡◌, refl, ap, ◌∙◌}
use mathlib.Core.List.{List, [], ◌∷◌, ◌++◌, map, append_assoc}
use Rattle.cells.specs.Lists.{flat}
use Rattle.tables.specs.Sizes.{max_depth}
use Rattle.tables.specs.Tables.{Tables, functions, regions, blocks, operations}
use Rattle.tables.specs.Answer.{and_then, each, Answer}
use Rattle.std.specs.Prelude.{Ok}
use Rattle.listed.specs.Twice.{listed_twice}
use Rattle.tables.proofs.Each.{both_accept}
use Rattle.walk.specs.Depth.{opens, operation_depth, block_depth, region_depth, too_deep}
use Rattle.walk.specs.Order.{operation_order, block_order, region_order, order_to, order}
use Rattle.table_checks.specs.Checks.{table_checks}
use Rattle.table_checks.proofs.Laws.{passes_3}
use Rattle.nesting.specs.Shape.{Shape, Visit, visit, operation_visits, operations_visits, block_visits, region_visits, whole_visits, first, entry_visits, entries_visits}
use Rattle.nesting.specs.Live.{valued, nesting_of, placed}
use Rattle.nesting.proofs.Lists.{map_append}
use Rattle.nesting_check.specs.Checks.{nesting_ranges, nesting_checks}
use Rattle.read_back.specs.Alone.{spanned}

-- ---- the walks of `nesting/specs/Shape` with any depth

-- every function whole, no deeper than d blocks
abbrev pub whole_to : {A : Type 0} → ℕ → Shape A → List (Visit A)
whole_to d s = flat (λ f. flat (region_visits d s []) (s.regions f)) s.functions

-- the first block of a function's first region, with no more than d blocks inside it
abbrev pub entry_to : {A : Type 0} → ℕ → Shape A → ℕ → List (Visit A)
entry_to d s f = first (λ k. first (block_visits (region_visits d s) s []) (s.blocks k)) (s.regions f)

abbrev pub entries_to : {A : Type 0} → ℕ → Shape A → List (Visit A)
entries_to d s = flat (entry_to d s) s.functions

-- "block depth 32"; "Depth counts a function's blocks as 1."
pub whole_is : {A : Type 0} (s : Shape A) → whole_to max_depth s ≡ whole_visits s
unfolding whole_visits
whole_is s = refl

pub entries_is : {A : Type 0} (s : Shape A) → entries_to (max_depth - 1) s ≡ entries_visits s
unfolding entries_visits entry_visits
entries_is s = refl

-- a walk over the nesting of x, whatever becomes live in it
pub record Over {A : Type 0} (x : Tables) (s : Shape A) : Type 0 where
  pub functions : s.functions ≡ functions x
  pub regions : (i : ℕ) → s.regions i ≡ regions x i
  pub blocks : (k : ℕ) → s.blocks k ≡ blocks x k
  pub operations : (j : ℕ) → s.operations j ≡ operations x j

-- that of dominance, that of numbering, that of reading back
pub over_valued : (x : Tables) → Over x (valued x)
unfolding valued
over_valued x = record { functions = refl; regions = λ i. refl; blocks = λ k. refl; operations = λ j. refl }

pub over_placed : (x : Tables) → Over x (placed (nesting_of x))
unfolding placed nesting_of
over_placed x = record { functions = refl; regions = λ i. refl; blocks = λ k. refl; operations = λ j. refl }

pub over_spanned : (x : Tables) → Over x (placed (spanned x))
unfolding placed spanned
over_spanned x = record { functions = refl; regions = λ i. refl; blocks = λ k. refl; operations = λ j. refl }

-- ---- a larger depth is the same walk

opens_none : (i : ℕ) (js : List ℕ) → opens i js ≡ Ok tt → js ≡ []
opens_none i [] e = refl
opens_none i (j ∷ js) e = absurd (let z : ◌≡◌ {A = ℕ} 0 1 = cc in omega arith)

-- a region that may hold blocks judges them with one depth less
pub opened : (x : Tables) (d i k : ℕ) → each (block_depth (region_depth d x) x) (blocks x k) ≡ region_depth (suc d) x i k
unfolding region_depth
opened x d i k = refl

-- what the judge accepts is the same, so the whole list is
pub flat_judged : {B : Type 0} (f : ℕ → Answer) (g h : ℕ → List B) → ((k : ℕ) → f k ≡ Ok tt → g k ≡ h k) → (ks : List ℕ) → each f ks ≡ Ok tt
    → flat g ks ≡ flat h ks
flat_judged f g h same [] e = refl
flat_judged f g h same (k ∷ ks) e =
    let q = both_accept (f k) (each f ks) e in
    rw (same k q.0, flat_judged f g h same ks q.1)

first_judged : {B : Type 0} (f : ℕ → Answer) (g h : ℕ → List B) → ((k : ℕ) → f k ≡ Ok tt → g k ≡ h k) → (ks : List ℕ) → each f ks ≡ Ok tt
    → first g ks ≡ first h ks
first_judged f g h same [] e = refl
first_judged f g h same (k ∷ ks) e = same k (both_accept (f k) (each f ks) e).0

module _ {A : Type 0} (x : Tables) (s : Shape A) (o : Over x s) where
  -- an answer on lists of x is one on lists of the walk
  judged : (f : ℕ → Answer) {is js : List ℕ} → is ≡ js → each f js ≡ Ok tt → each f is ≡ Ok tt
  judged f q e = ap (each f) q ∙ e

  module _ (f : ℕ → ℕ → Answer) (g h : List A → ℕ → List (Visit A)) (same : (i k : ℕ) → f i k ≡ Ok tt → (live : List A) → g live k ≡ h live k) where
    operation_same : (i : ℕ) → operation_depth f x i ≡ Ok tt → (live : List A) → operation_visits g s live i ≡ operation_visits h s live i
    unfolding operation_visits operation_depth
    operation_same i e live =
        ap (λ (us : List (Visit A)). visit i live ∷ us)
        (flat_judged (f i) (g (live ++ s.inner i)) (h (live ++ s.inner i)) (λ k q. same i k q (live ++ s.inner i)) (s.regions i) (judged (f i) (o.regions i) e))

    operations_same : (is : List ℕ) → each (operation_depth f x) is ≡ Ok tt → (live : List A) → operations_visits g s live is ≡ operations_visits h s live is
    operations_same [] e live = refl
    operations_same (i ∷ is) e live =
        let q = both_accept (operation_depth f x i) (each (operation_depth f x) is) e in
        rw (operation_same i q.0 live, operations_same is q.1 (live ++ s.results i))

    block_same : (j : ℕ) → block_depth f x j ≡ Ok tt → (live : List A) → block_visits g s live j ≡ block_visits h s live j
    unfolding block_visits block_depth
    block_same j e live = operations_same (s.operations j) (judged (operation_depth f x) (o.operations j) e) (live ++ s.arguments j)

  pub region_same : (d e : ℕ) → e ≤ d → (i k : ℕ) → region_depth e x i k ≡ Ok tt → (live : List A) → region_visits d s live k ≡ region_visits e s live k
  unfolding region_visits region_depth
  region_same zero zero l i k h live = refl
  region_same (suc d) zero l i k h live = rw (o.blocks k ∙ opens_none i (blocks x k) h)
  region_same zero (suc e) l i k h live = absurd (omega arith)
  region_same (suc d) (suc e) l i k h live =
      flat_judged (block_depth (region_depth e x) x) (block_visits (region_visits d s) s live) (block_visits (region_visits e s) s live)
      (λ j q. block_same (region_depth e x) (region_visits d s) (region_visits e s) (region_same d e (le_of_suc-le-suc l)) j q live)
      (s.blocks k) (judged (block_depth (region_depth e x) x) (o.blocks k) h)

  module _ (three : too_deep x ≡ Ok tt) where
    fine : each (operation_depth (region_depth max_depth x) x) s.functions ≡ Ok tt
    unfolding too_deep
    fine = judged (operation_depth (region_depth max_depth x) x) o.functions three

    -- below the entry block
    abbrev inner : ℕ → ℕ → Answer
    inner = region_depth (max_depth - 1) x

    -- dominance's walk
    pub whole_deeper : (d : ℕ) → max_depth ≤ d → whole_to d s ≡ whole_visits s
    unfolding whole_visits operation_depth
    whole_deeper d l =
        flat_judged (operation_depth (region_depth max_depth x) x) (λ f. flat (region_visits d s []) (s.regions f)) (λ f. flat (region_visits max_depth s []) (s.regions f))
        (λ f q. flat_judged (region_depth max_depth x f) (region_visits d s []) (region_visits max_depth s [])
        (λ k p. region_same d max_depth l f k p []) (s.regions f) (judged (region_depth max_depth x f) (o.regions f) q)) s.functions fine

    -- the entry walks of numbering and of reading back
    pub entries_deeper : (d : ℕ) → max_depth - 1 ≤ d → entries_to d s ≡ entries_visits s
    unfolding entries_visits entry_visits operation_depth
    entries_deeper d l =
        flat_judged (operation_depth (region_depth max_depth x) x) (entry_to d s) (entry_to (max_depth - 1) s)
        (λ f q. first_judged (region_depth max_depth x f) (λ k. first (block_visits (region_visits d s) s []) (s.blocks k))
        (λ k. first (block_visits (region_visits (max_depth - 1) s) s []) (s.blocks k)) (λ k p. first_judged (block_depth inner x)
        (block_visits (region_visits d s) s []) (block_visits (region_visits (max_depth - 1) s) s [])
        (λ j r. block_same inner (region_visits d s) (region_visits (max_depth - 1) s) (region_same d (max_depth - 1) l) j r [])
        (s.blocks k) (judged (block_depth inner x) (o.blocks k) (opened x (max_depth - 1) f k ∙ p)))
        (s.regions f) (judged (region_depth max_depth x f) (o.regions f) q)) s.functions fine

-- ---- the operations of a walk

abbrev pub ops : {A : Type 0} → List (Visit A) → List ℕ
ops us = map (λ (u : Visit _). u.op) us

module _ {A : Type 0} where
  ops_flat : (g : ℕ → List (Visit A)) (h : ℕ → List ℕ) → ((k : ℕ) → ops (g k) ≡ h k) → (ks : List ℕ) → ops (flat g ks) ≡ flat h ks
  ops_flat g h same [] = refl
  ops_flat g h same (k ∷ ks) = map_append (λ (u : Visit A). u.op) (g k) (flat g ks) ∙ rw (same k, ops_flat g h same ks)

  ops_first : (g : ℕ → List (Visit A)) (h : ℕ → List ℕ) → ((k : ℕ) → ops (g k) ≡ h k) → (ks : List ℕ) → ops (first g ks) ≡ first h ks
  ops_first g h same [] = refl
  ops_first g h same (k ∷ ks) = same k

-- everything nested in function f, in walk order; and in block j of depth 1
abbrev pub nested_in : Tables → ℕ → List ℕ
nested_in x f = flat (region_order max_depth x) (regions x f)

abbrev pub nested_in_entry : Tables → ℕ → List ℕ
nested_in_entry x j = block_order (region_order (max_depth - 1) x) x j

-- the walk order is each function with what is nested in it
pub order_is : (x : Tables) → order x ≡ flat (λ f. f ∷ nested_in x f) (functions x)
unfolding order_to operation_order
order_is x = refl

module _ {A : Type 0} (x : Tables) (s : Shape A) (o : Over x s) where
  module _ (g : List A → ℕ → List (Visit A)) (h : ℕ → List ℕ) (same : (live : List A) (k : ℕ) → ops (g live k) ≡ h k) where
    operation_ops : (live : List A) (i : ℕ) → ops (operation_visits g s live i) ≡ operation_order h x i
    unfolding operation_visits operation_order
    operation_ops live i =
        ap (λ (is : List ℕ). i ∷ is) (ops_flat (g (live ++ s.inner i)) h (same (live ++ s.inner i)) (s.regions i) ∙ ap (flat h) (o.regions i))

    operations_ops : (live : List A) (is : List ℕ) → ops (operations_visits g s live is) ≡ flat (operation_order h x) is
    operations_ops live [] = refl
    operations_ops live (i ∷ is) =
        map_append (λ (u : Visit A). u.op) (operation_visits g s live i) (operations_visits g s (live ++ s.results i) is)
        ∙ rw (operation_ops live i, operations_ops (live ++ s.results i) is)

    block_ops : (live : List A) (j : ℕ) → ops (block_visits g s live j) ≡ block_order h x j
    unfolding block_visits block_order
    block_ops live j = operations_ops (live ++ s.arguments j) (s.operations j) ∙ ap (flat (operation_order h x)) (o.operations j)

  pub region_ops : (d : ℕ) (live : List A) (k : ℕ) → ops (region_visits d s live k) ≡ region_order d x k
  unfolding region_visits region_order
  region_ops zero live k = refl
  region_ops (suc d) live k =
      ops_flat (block_visits (region_visits d s) s live) (block_order (region_order d x) x) (block_ops (region_visits d s) (region_order d x) (region_ops d) live) (s.blocks k)
      ∙ ap (flat (block_order (region_order d x) x)) (o.blocks k)

  -- the whole walk visits what is nested in each function, and not the function operation
  pub whole_operations : ops (whole_visits s) ≡ flat (nested_in x) (functions x)
  unfolding whole_visits
  whole_operations =
      ops_flat (λ f. flat (region_visits max_depth s []) (s.regions f)) (nested_in x)
      (λ f. ops_flat (region_visits max_depth s []) (region_order max_depth x) (region_ops max_depth []) (s.regions f) ∙ ap (flat (region_order max_depth x)) (o.regions f)) s.functions
      ∙ ap (flat (nested_in x)) o.functions

  -- an entry walk visits what is nested in the first block of the function's first region
  pub entry_operations : (f : ℕ) → ops (entry_visits s f) ≡ first (λ k. first (nested_in_entry x) (blocks x k)) (regions x f)
  unfolding entry_visits
  entry_operations f =
      ops_first (λ k. first (block_visits (region_visits (max_depth - 1) s) s []) (s.blocks k)) (λ k. first (nested_in_entry x) (blocks x k))
      (λ k. ops_first (block_visits (region_visits (max_depth - 1) s) s []) (nested_in_entry x)
      (block_ops (region_visits (max_depth - 1) s) (region_order (max_depth - 1) x) (region_ops (max_depth - 1)) []) (s.blocks k) ∙ ap (first (nested_in_entry x)) (o.blocks k)) (s.regions f)
      ∙ ap (first (λ k. first (nested_in_entry x) (blocks x k))) (o.regions f)

blocks_of : (x : Tables) (d k : ℕ) → region_order (suc d) x k ≡ flat (block_order (region_order d x) x) (blocks x k)
unfolding region_order
blocks_of x d k = refl

-- these come first of what is nested in the function: then the other blocks of that region, then the other regions
pub entry_first : (x : Tables) (f k j : ℕ) (ks js : List ℕ) → regions x f ≡ k ∷ ks → blocks x k ≡ j ∷ js
    → nested_in x f ≡ nested_in_entry x j ++ (flat (nested_in_entry x) js ++ flat (region_order max_depth x) ks)
entry_first x f k j ks js e q =
    ap (flat (region_order max_depth x)) e
    ∙ ap (λ (is : List ℕ). is ++ flat (region_order max_depth x) ks) (blocks_of x (max_depth - 1) k ∙ ap (flat (nested_in_entry x)) q)
    ∙ append_assoc (nested_in_entry x j) (flat (nested_in_entry x) js) (flat (region_order max_depth x) ks)

-- ---- dominance, numbering and reading back, where their checks pass

pub dominance_deeper : (x : Tables) → table_checks x ≡ Ok tt → (d : ℕ) → max_depth ≤ d → whole_to d (valued x) ≡ whole_visits (valued x)
dominance_deeper x e = whole_deeper x (valued x) (over_valued x) (passes_3 x e)

pub numbering_deeper : (x : Tables) → table_checks x ≡ Ok tt → (d : ℕ) → max_depth - 1 ≤ d
    → entries_to d (placed (nesting_of x)) ≡ entries_visits (placed (nesting_of x))
numbering_deeper x e = entries_deeper x (placed (nesting_of x)) (over_placed x) (passes_3 x e)

-- reading back asks 3 itself
pub reading_deeper : (x : Tables) → nesting_checks x ≡ Ok tt → (d : ℕ) → max_depth - 1 ≤ d
    → entries_to d (placed (spanned x)) ≡ entries_visits (placed (spanned x))
unfolding nesting_checks
reading_deeper x e =
    entries_deeper x (placed (spanned x)) (over_spanned x)
    (both_accept (listed_twice x) (too_deep x) (both_accept (nesting_ranges x) (and_then (listed_twice x) (too_deep x)) e).1).1
