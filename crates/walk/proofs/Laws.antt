-- What holds of the walk order. Where nothing is listed twice, no operation stands in it twice, so it fits the room of all operations
-- and no total over it is larger than over all; where code 3 passes, the depth cuts nothing off. Assumes nothing.
use Prim.Native.Nat.{ℕ, zero, suc, ◌+◌, ◌<◌, ◌≤◌, min}
use native.Mathlib.Nat.{le_of_suc-le-suc}
use native.Mathlib.Omega.{arith}
use mathlib.Core.Path.{◌≡◌, refl, ap}
use mathlib.Core.Logic.{inl, ⊎_elim}
use mathlib.Core.List.{List, [], ◌∷◌, ◌++◌}
use lib.ListN.{length, drop}
use lib.Seq.{take_all}
use borrow.Author.Tests.{le-ltb}
use Rattle.cells.specs.Lists.{below, flat, count}
use Rattle.cells.proofs.Rows.{lt_or_ge}
use Rattle.tables.specs.Sizes.{max_depth}
use Rattle.tables.specs.Layout.{regions_span_in, regions_in, blocks_span_in, blocks_in, operations_span_in, operations_in}
use Rattle.tables.specs.Tables.{Tables, functions, regions, blocks, operations}
use Rattle.tables.proofs.Each.{both_accept}
use Rattle.tables.specs.Answer.{each, Answer}
use Rattle.std.specs.Prelude.{Ok}
use Rattle.walk.specs.Order.{operation_order, block_order, region_order, order_to, order}
use Rattle.walk.specs.Depth.{opens, operation_depth, block_depth, region_depth, too_deep}
use Rattle.walk.specs.Written.{filled, written}
use Rattle.walk.specs.Total.{total}
use Rattle.walk.proofs.Totals.{hit, total_append, total_flat, count_total, length_total, no_more, count_below, length_below, flat_within, count_within}

flat_none : (xs : List ℕ) → flat {A = ℕ} {B = ℕ} (λ _. []) xs ≡ []
flat_none [] = refl
flat_none (x ∷ xs) = flat_none xs

module _ (x : Tables) where
  -- the total of g over the operations that block j lists, and over what region k and operation i list two and three levels down
  abbrev in_block : (ℕ → ℕ) → ℕ → ℕ
  in_block g j = total g (operations x j)

  abbrev in_region : (ℕ → ℕ) → ℕ → ℕ
  in_region g k = total (in_block g) (blocks x k)

  abbrev in_operation : (ℕ → ℕ) → ℕ → ℕ
  in_operation g i = total (in_region g) (regions x i)

  -- an entry past its count lists nothing
  operations_past : (j : ℕ) → x.counts.blocks ≤ j → operations x j ≡ []
  unfolding operations_in operations_span_in
  operations_past j h = rw (le-ltb j x.counts.blocks h)

  blocks_past : (k : ℕ) → x.counts.regions ≤ k → blocks x k ≡ []
  unfolding blocks_in blocks_span_in
  blocks_past k h = rw (le-ltb k x.counts.regions h)

  regions_past : (i : ℕ) → x.counts.operations ≤ i → regions x i ≡ []
  unfolding regions_in regions_span_in
  regions_past i h = rw (le-ltb i x.counts.operations h)

  -- one more level of regions gives one more level of all
  module _ (g : ℕ → ℕ) (more less : ℕ → List ℕ) (e : (k : ℕ) → total g (more k) ≡ in_region g k + total (in_operation g) (less k)) where
    regions_step : (ks : List ℕ) → total g (flat more ks) ≡ total (in_region g) ks + total (in_operation g) (flat less ks)
    regions_step [] = refl
    regions_step (k ∷ ks) = omega (arith, total_append g (more k) (flat more ks), total_append (in_operation g) (less k) (flat less ks), e k, regions_step ks)

    operations_step : (is : List ℕ) → total g (flat (operation_order more x) is) ≡ total g is + total (in_operation g) (flat (operation_order less x) is)
    unfolding operation_order
    operations_step [] = refl
    operations_step (i ∷ is) =
        omega (
          arith,
          total_append g (flat more (regions x i)) (flat (operation_order more x) is),
          total_append (in_operation g) (flat less (regions x i)) (flat (operation_order less x) is),
          regions_step (regions x i),
          operations_step is,
        )

    blocks_step : (js : List ℕ) → total g (flat (block_order more x) js) ≡ total (in_block g) js + total (in_operation g) (flat (block_order less x) js)
    unfolding block_order
    blocks_step [] = refl
    blocks_step (j ∷ js) =
        omega (
          arith,
          total_append g (flat (operation_order more x) (operations x j)) (flat (block_order more x) js),
          total_append (in_operation g) (flat (operation_order less x) (operations x j)) (flat (block_order less x) js),
          operations_step (operations x j),
          blocks_step js,
        )

  -- no level of regions: what is listed, and no more
  operations_none : (g : ℕ → ℕ) (is : List ℕ) → total g (flat (operation_order (region_order 0 x) x) is) ≡ total g is
  unfolding operation_order region_order
  operations_none g [] = refl
  operations_none g (i ∷ is) = rw (flat_none (regions x i)) (omega (arith, operations_none g is))

  blocks_none : (g : ℕ → ℕ) (js : List ℕ) → total g (flat (block_order (region_order 0 x) x) js) ≡ total (in_block g) js
  unfolding block_order
  blocks_none g [] = refl
  blocks_none g (j ∷ js) =
      omega (
        arith,
        total_append g (flat (operation_order (region_order 0 x) x) (operations x j)) (flat (block_order (region_order 0 x) x) js),
        operations_none g (operations x j),
        blocks_none g js,
      )

  region_step : (d : ℕ) (g : ℕ → ℕ) (k : ℕ) → total g (region_order (suc d) x k) ≡ in_region g k + total (in_operation g) (region_order d x k)
  unfolding region_order
  region_step zero g k = omega (arith, blocks_none g (blocks x k))
  region_step (suc d) g k = blocks_step g (region_order (suc d) x) (region_order d x) (region_step d g) (blocks x k)

  -- one more level is the functions and what the walk so far lists
  order_step : (d : ℕ) (g : ℕ → ℕ) → total g (order_to (suc d) x) ≡ total g (functions x) + total (in_operation g) (order_to d x)
  unfolding order_to
  order_step d g = operations_step g (region_order (suc d) x) (region_order d x) (region_step d g) (functions x)

  order_none : (g : ℕ → ℕ) → total g (order_to 0 x) ≡ total g (functions x)
  unfolding order_to
  order_none g = operations_none g (functions x)

-- nothing is listed twice: what code 2 asks
module _
    (x : Tables)
    (operations_once : (i : ℕ) → count i (functions x ++ flat (operations x) (below x.counts.blocks)) ≤ 1)
    (blocks_once : (j : ℕ) → count j (flat (blocks x) (below x.counts.regions)) ≤ 1)
    (regions_once : (k : ℕ) → count k (flat (regions x) (below x.counts.operations)) ≤ 1)
  where
    abbrev listed : List ℕ
    listed = functions x ++ flat (operations x) (below x.counts.blocks)

    -- what a list of operations without doubles lists three levels down
    nested : (ys : List ℕ) → ((i : ℕ) → count i ys ≤ 1) → (g : ℕ → ℕ) → total (in_operation x g) ys ≤ total g (flat (operations x) (below x.counts.blocks))
    nested ys once g =
        omega (
          arith,
          total_flat (in_region x g) (regions x) ys,
          flat_within (in_region x g) (regions x) ys x.counts.operations once (regions_past x),
          total_flat (in_block x g) (blocks x) (flat (regions x) (below x.counts.operations)),
          flat_within (in_block x g) (blocks x) (flat (regions x) (below x.counts.operations)) x.counts.regions regions_once (blocks_past x),
          total_flat g (operations x) (flat (blocks x) (below x.counts.regions)),
          flat_within g (operations x) (flat (blocks x) (below x.counts.regions)) x.counts.blocks blocks_once (operations_past x),
        )

    total_listed : (d : ℕ) (g : ℕ → ℕ) → total g (order_to d x) ≤ total g listed
    total_listed zero g = omega (arith, order_none x g, total_append g (functions x) (flat (operations x) (below x.counts.blocks)))
    total_listed (suc d) g =
        omega (
          arith,
          order_step x d g,
          nested (order_to d x) (λ i. omega (arith, count_total i (order_to d x), total_listed d (hit i), count_total i listed, operations_once i)) g,
          total_append g (functions x) (flat (operations x) (below x.counts.blocks)),
        )

    count_listed : (i : ℕ) → count i (order x) ≤ count i listed
    count_listed i = omega (arith, count_total i (order x), total_listed max_depth (hit i), count_total i listed)

    -- no operation stands twice in the walk order
    pub order_once : (i : ℕ) → count i (order x) ≤ 1
    order_once i = omega (arith, count_listed i, operations_once i)

    -- nor is a region or a block opened twice
    pub regions_opened_once : (k : ℕ) → count k (flat (regions x) (order x)) ≤ 1
    regions_opened_once k = omega (arith, count_within (regions x) (order x) x.counts.operations order_once (regions_past x) k, regions_once k)

    pub blocks_opened_once : (j : ℕ) → count j (flat (blocks x) (flat (regions x) (order x))) ≤ 1
    blocks_opened_once j =
        omega (arith, count_within (blocks x) (flat (regions x) (order x)) x.counts.regions regions_opened_once (blocks_past x) j, blocks_once j)

    -- every operation that is listed is one of those that count
    module _ (inside : (i : ℕ) → 1 ≤ count i (functions x ++ flat (operations x) (below x.counts.blocks)) → i < x.counts.operations) where
      -- a total over what is reached is no more than over all operations
      pub sum_within : (g : ℕ → ℕ) → total g (order x) ≤ total g (below x.counts.operations)
      sum_within g = no_more g (order x) (below x.counts.operations) (λ i. inl (⊎_elim
          (λ h. omega (arith, order_once i, count_below i x.counts.operations h))
          (λ h. ⊎_elim (λ z. omega (arith, count_listed i)) (λ s. absurd (omega (arith, inside i s))) (lt_or_ge (count i listed) 1))
          (lt_or_ge i x.counts.operations)))

      -- the walk order has room where all operations have
      pub order_fits : length (order x) ≤ x.counts.operations
      order_fits =
          omega (
            arith,
            length_total (order x),
            sum_within (λ _. 1),
            length_total (below x.counts.operations),
            length_below x.counts.operations,
          )

-- ---- where code 3 passes

opens_none : (i : ℕ) (js : List ℕ) → opens i js ≡ Ok tt → js ≡ []
opens_none i [] e = refl
opens_none i (j ∷ js) e = absurd (let z : ◌≡◌ {A = ℕ} 0 1 = cc in omega arith)

flat_same : (f : ℕ → Answer) (g h : ℕ → List ℕ) → ((k : ℕ) → f k ≡ Ok tt → g k ≡ h k) → (ks : List ℕ) → each f ks ≡ Ok tt → flat g ks ≡ flat h ks
flat_same f g h s [] e = refl
flat_same f g h s (k ∷ ks) e =
    let q = both_accept (f k) (each f ks) e in
    rw (s k q.0, flat_same f g h s ks q.1)

module _ (x : Tables) where
  module _ (f : ℕ → ℕ → Answer) (g h : ℕ → List ℕ) (s : (i k : ℕ) → f i k ≡ Ok tt → g k ≡ h k) where
    operation_same : (i : ℕ) → operation_depth f x i ≡ Ok tt → operation_order g x i ≡ operation_order h x i
    unfolding operation_order operation_depth
    operation_same i e = ap (λ (ks : List ℕ). i ∷ ks) (flat_same (f i) g h (s i) (regions x i) e)

    block_same : (j : ℕ) → block_depth f x j ≡ Ok tt → block_order g x j ≡ block_order h x j
    unfolding block_order block_depth
    block_same j e = flat_same (operation_depth f x) (operation_order g x) (operation_order h x) operation_same (operations x j) e

  region_same : (d e : ℕ) → e ≤ d → (i k : ℕ) → region_depth e x i k ≡ Ok tt → region_order d x k ≡ region_order e x k
  unfolding region_order region_depth
  region_same zero zero l i k h = refl
  region_same (suc d) zero l i k h = rw (opens_none i (blocks x k) h)
  region_same zero (suc e) l i k h = absurd (omega arith)
  region_same (suc d) (suc e) l i k h =
      flat_same (block_depth (region_depth e x) x) (block_order (region_order d x) x) (block_order (region_order e x) x)
      (block_same (region_depth e x) (region_order d x) (region_order e x) (region_same d e (le_of_suc-le-suc l))) (blocks x k) h

  -- the depth cuts nothing off, so every reachable operation stands in the order
  pub depth_cuts_nothing : too_deep x ≡ Ok tt → (d : ℕ) → order_to (max_depth + d) x ≡ order x
  unfolding too_deep order_to
  depth_cuts_nothing h d =
      flat_same (operation_depth (region_depth max_depth x) x) (operation_order (region_order (max_depth + d) x) x) (operation_order (region_order max_depth x) x)
      (operation_same (region_depth max_depth x) (region_order (max_depth + d) x) (region_order max_depth x) (region_same (max_depth + d) max_depth (omega arith))) (functions x) h

-- ---- where there is room, all of a list is written, and what stood behind it stays

pub written_whole : (out xs : List ℕ) → length xs ≤ length out → written out xs ≡ filled (xs ++ drop (length xs) out) (length xs)
written_whole out xs h =
    let e : min (length xs) (length out) ≡ length xs = omega arith in
    rw (take_all (length out) xs h, e)
