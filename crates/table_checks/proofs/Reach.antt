-- The walk order of accepted tables: no operation stands in it twice, no region or block is opened twice, it has room, and the depth
-- cuts nothing off. Assumes nothing.
use Prim.Native.Nat.{ℕ, suc, ◌+◌, ◌≤◌, ◌<◌}
use native.Mathlib.Omega.{arith}
use mathlib.Core.Path.{◌≡◌, refl}
use mathlib.Core.Bool.{Bool, true, false, cond}
use mathlib.Core.Logic.{⊎_elim}
use mathlib.Core.List.{List, [], ◌∷◌, ◌++◌}
use lib.Dec.{eqb}
use lib.ListN.{length}
use borrow.Author.Tests.{eqb-true}
use Rattle.cells.specs.Lists.{below, flat, count}
use Rattle.cells.proofs.Rows.{lt_or_ge}
use Rattle.tables.specs.Sizes.{max_depth}
use Rattle.tables.specs.Tables.{Tables, functions, regions, blocks, operations}
use Rattle.std.specs.Prelude.{Ok}
use Rattle.ranges.specs.Ranged.{Below}
use Rattle.listed.specs.Twice.{listed_operations, listed_blocks, listed_regions}
use Rattle.walk.specs.Order.{order_to, order}
use Rattle.walk.specs.Total.{total}
use Rattle.walk.proofs.Laws as walk
use Rattle.table_checks.specs.Checks.{table_checks}
use Rattle.table_checks.proofs.Laws.{passes_1, passes_2, passes_3}

-- an id stands in no list whose entries all lie below it
count_append : (i : ℕ) (xs ys : List ℕ) → count i (xs ++ ys) ≡ count i xs + count i ys
count_append i [] ys = omega arith
count_append i (x ∷ xs) ys = omega (arith, count_append i xs ys)

below_tail : (x : ℕ) (xs : List ℕ) (n : ℕ) → Below (x ∷ xs) n → Below xs n
below_tail x xs n h k l = h (suc k) (omega arith)

not_here : (i x n : ℕ) (t : Bool) → eqb x i ≡ t → x < n → n ≤ i → ◌≡◌ {A = ℕ} (cond t 1 0) 0
not_here i x n true e h g = absurd (omega (arith, eqb-true x i e))
not_here i x n false e h g = refl

count_past : (i n : ℕ) → n ≤ i → (xs : List ℕ) → Below xs n → count i xs ≡ 0
count_past i n g [] h = refl
count_past i n g (x ∷ xs) h =
    omega (arith, not_here i x n (eqb x i) refl (h 0 (omega arith)) g, count_past i n g xs (below_tail x xs n h))

pub flat_past : (i n : ℕ) → n ≤ i → (f : ℕ → List ℕ) → ((k : ℕ) → Below (f k) n) → (ks : List ℕ) → count i (flat f ks) ≡ 0
flat_past i n g f h [] = refl
flat_past i n g f h (k ∷ ks) = omega (arith, count_append i (f k) (flat f ks), count_past i n g (f k) (h k), flat_past i n g f h ks)

module _ (x : Tables) (e : table_checks x ≡ Ok tt) where
  operations_none : (i : ℕ) → x.counts.operations ≤ i → count i (listed_operations x) ≡ 0
  operations_none i g =
      omega (
        arith,
        count_append i (functions x) (flat (operations x) (below x.counts.blocks)),
        count_past i x.counts.operations g (functions x) (passes_1 x e).functions_below,
        flat_past i x.counts.operations g (operations x) (passes_1 x e).operations_below (below x.counts.blocks),
      )

  pub operations_once : (i : ℕ) → count i (listed_operations x) ≤ 1
  operations_once i =
      ⊎_elim (λ h. (passes_2 x e).operations i h) (λ g. omega (arith, operations_none i g)) (lt_or_ge i x.counts.operations)

  pub blocks_once : (j : ℕ) → count j (listed_blocks x) ≤ 1
  blocks_once j =
      ⊎_elim (λ h. (passes_2 x e).blocks j h)
      (λ g. omega (arith, flat_past j x.counts.blocks g (blocks x) (passes_1 x e).blocks_below (below x.counts.regions)))
      (lt_or_ge j x.counts.blocks)

  pub regions_once : (k : ℕ) → count k (listed_regions x) ≤ 1
  regions_once k =
      ⊎_elim (λ h. (passes_2 x e).regions k h)
      (λ g. omega (arith, flat_past k x.counts.regions g (regions x) (passes_1 x e).regions_below (below x.counts.operations)))
      (lt_or_ge k x.counts.regions)

  inside : (i : ℕ) → 1 ≤ count i (listed_operations x) → i < x.counts.operations
  inside i h = ⊎_elim (λ l. l) (λ g. absurd (omega (arith, operations_none i g))) (lt_or_ge i x.counts.operations)

  -- no operation stands in the walk order twice
  pub order_once : (i : ℕ) → count i (order x) ≤ 1
  order_once = walk.order_once x operations_once blocks_once regions_once

  -- no region and no block is opened twice
  pub regions_opened_once : (k : ℕ) → count k (flat (regions x) (order x)) ≤ 1
  regions_opened_once = walk.regions_opened_once x operations_once blocks_once regions_once

  pub blocks_opened_once : (j : ℕ) → count j (flat (blocks x) (flat (regions x) (order x))) ≤ 1
  blocks_opened_once = walk.blocks_opened_once x operations_once blocks_once regions_once

  -- so it fits the room of all operations, and so does any total over it
  pub order_fits : length (order x) ≤ x.counts.operations
  order_fits = walk.order_fits x operations_once blocks_once regions_once inside

  pub sum_within : (g : ℕ → ℕ) → total g (order x) ≤ total g (below x.counts.operations)
  sum_within = walk.sum_within x operations_once blocks_once regions_once inside

  -- and the depth cuts nothing off: every reachable operation stands in it
  pub order_whole : (d : ℕ) → order_to (max_depth + d) x ≡ order x
  order_whole = walk.depth_cuts_nothing x (passes_3 x e)
