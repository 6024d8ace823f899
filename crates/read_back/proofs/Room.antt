-- Where codes 1 and 2 pass, no more places are live than lists have entries, so the stack has room for all. Assumes nothing.
use Prim.Native.Nat.{ℕ, zero, suc, ◌+◌, ◌≤◌, ◌<◌}
use native.Mathlib.Omega.{arith}
use mathlib.Core.Path.{◌≡◌, refl, ap, sym, ◌∙◌, subst}
use mathlib.Core.Bool.{Bool, true, false, cond}
use mathlib.Core.Logic.{⊎_elim}
use mathlib.Core.List.{List, [], ◌∷◌, ◌++◌, map}
use lib.Dec.{eqb}
use lib.ListN.{length, length-append}
use borrow.Author.Tests.{le-ltb, eqb-true}
use Rattle.cells.specs.Lists.{from, below, flat, count}
use Rattle.cells.proofs.Rows.{lt_or_ge}
use Rattle.tables.specs.Sizes.{max_depth}
use Rattle.tables.specs.Layout.{arguments_span_in}
use Rattle.tables.specs.Tables.{Tables, functions, regions, blocks, operations, arguments_span, result_types_span}
use Rattle.tables.specs.declared.Place.{Place}
use Rattle.tables.specs.declared.Place.TheVariants.{Argument, Result}
use Rattle.ranges.specs.Range.{sum, listed_by_operation, listed_by_block}
use Rattle.ranges.specs.Ranged.{Below}
use Rattle.listed.specs.Twice.{listed_operations, listed_blocks, listed_regions}
use Rattle.listed.specs.Once.{Once}
use Rattle.walk.specs.Order.{operation_order, block_order, region_order, order_to, order}
use Rattle.walk.specs.Total.{total}
use Rattle.walk.proofs.Totals.{total_append, total_flat, within_below}
use Rattle.walk.proofs.Laws.{sum_within}
use Rattle.nesting.specs.In.{In, here, later}
use Rattle.nesting.specs.Shape.{Shape, Visit, visit, operation_visits, operations_visits, block_visits, region_visits, whole_visits}
use Rattle.nesting.specs.Live.{placed}
use Rattle.nesting.specs.Fits.{FitsAt}
use Rattle.nesting.proofs.Lists.{in_none, in_single, in_split, from_flat}
use Rattle.nesting.proofs.Counts.{count_append}
use Rattle.nesting.proofs.Past.{blocks_past}
use Rattle.read_back.specs.Alone.{spanned}
use Rattle.nesting_check.proofs.Ranged.{Nested}

-- ---- totals

in_total : (g : ℕ → ℕ) {k : ℕ} {ks : List ℕ} → In k ks → g k ≤ total g ks
in_total g here = omega arith
in_total g (later h) = omega (arith, in_total g h)

in_flat_total : (g : ℕ → ℕ) (f : ℕ → List ℕ) {k : ℕ} (ks : List ℕ) → In k ks → total g (f k) ≤ total g (flat f ks)
in_flat_total g f ks h = omega (arith, total_flat g f ks, in_total (λ k. total g (f k)) h)

total_add : (f g : ℕ → ℕ) (xs : List ℕ) → total (λ i. f i + g i) xs ≡ total f xs + total g xs
total_add f g [] = refl
total_add f g (x ∷ xs) = omega (arith, total_add f g xs)

total_last : (f : ℕ → ℕ) (s n : ℕ) → total f (from s (suc n)) ≡ total f (from s n) + f (s + n)
total_last f s zero = let e : s + 0 ≡ s = omega arith in rw e (omega arith)
total_last f s (suc n) = let e : s + suc n ≡ suc s + n = omega arith in rw e (omega (arith, total_last f (suc s) n))

total_sum : (f : ℕ → ℕ) (n : ℕ) → total f (below n) ≡ sum f n
total_sum f zero = refl
total_sum f (suc n) = total_last f 0 n ∙ (let e : 0 + n ≡ n = omega arith in rw e (ap (λ (m : ℕ). m + f n) (total_sum f n)))

sum_least : (f g : ℕ → ℕ) → ((i : ℕ) → f i ≤ g i) → (n : ℕ) → sum f n ≤ sum g n
sum_least f g h zero = omega arith
sum_least f g h (suc n) = omega (arith, sum_least f g h n, h n)

made : (f : ℕ → Place) (s n : ℕ) → length (map f (from s n)) ≡ n
made f s zero = refl
made f s (suc n) = ap suc (made f (suc s) n)

-- ---- what is live at a visit, with the results there, is no more than the walk brings in all

module _ (x : Tables) where
  abbrev shape : Shape Place
  shape = placed (spanned x)

  abbrev args : ℕ → ℕ
  args j = (arguments_span x j).len

  abbrev res : ℕ → ℕ
  res i = (result_types_span x i).len

  abbrev in_region : ℕ → ℕ
  in_region k = total args (blocks x k)

  -- what an operation brings: its results, and the arguments of the blocks that it opens
  abbrev weight : ℕ → ℕ
  weight i = res i + total in_region (regions x i)

  abbrev after : Visit Place → ℕ
  after u = length u.live + res u.op

  grown : (live : List Place) (i : ℕ) → length (live ++ shape.results i) ≡ length live + res i
  unfolding placed spanned
  grown live i = length-append live (map (Result i) (below (res i))) ∙ ap (λ (m : ℕ). length live + m) (made (Result i) 0 (res i))

  entered : (live : List Place) (j : ℕ) → length (live ++ shape.arguments j) ≡ length live + args j
  unfolding placed spanned
  entered live j = length-append live (map (Argument j) (below (args j))) ∙ ap (λ (m : ℕ). length live + m) (made (Argument j) 0 (args j))

  module _ (inside : List Place → ℕ → List (Visit Place)) (inner : ℕ → List ℕ)
      (ih : (live : List Place) (k : ℕ) (u : Visit Place) → In u (inside live k) → after u ≤ length live + (in_region k + total weight (inner k))) where
    operation_room : (live : List Place) (i : ℕ) (u : Visit Place) → In u (operation_visits inside shape live i)
        → after u ≤ length live + total weight (operation_order inner x i)
    unfolding operation_visits operation_order placed spanned
    operation_room live i u h = ⊎_elim
        (λ q.
        subst (λ (w : Visit Place). after w ≤ length live + (weight i + total weight (flat inner (regions x i)))) (sym (in_single q)) (omega arith))
        (λ q.
        let f = from_flat (inside (live ++ shape.results i)) (regions x i) q in
        omega (
          arith,
          ih (live ++ shape.results i) f.parent u f.holds,
          grown live i,
          in_total in_region f.listed,
          in_flat_total weight inner (regions x i) f.listed,
        ))
        (in_split (visit i live ∷ []) h)

    own : (i : ℕ) → res i ≤ total weight (operation_order inner x i)
    unfolding operation_order
    own i = omega arith

    operations_room : (live : List Place) (is : List ℕ) (u : Visit Place) → In u (operations_visits inside shape live is)
        → after u ≤ length live + total weight (flat (operation_order inner x) is)
    operations_room live [] u h = in_none h
    operations_room live (i ∷ is) u h = ⊎_elim
        (λ q. omega (arith, operation_room live i u q, total_append weight (operation_order inner x i) (flat (operation_order inner x) is)))
        (λ q.
        omega (
          arith,
          operations_room (live ++ shape.results i) is u q,
          grown live i,
          own i,
          total_append weight (operation_order inner x i) (flat (operation_order inner x) is),
        ))
        (in_split (operation_visits inside shape live i) h)

    block_room : (live : List Place) (j : ℕ) (u : Visit Place) → In u (block_visits inside shape live j)
        → after u ≤ length live + (args j + total weight (block_order inner x j))
    unfolding block_visits block_order placed spanned
    block_room live j u h = omega (arith, operations_room (live ++ shape.arguments j) (operations x j) u h, entered live j)

  region_room : (d : ℕ) (live : List Place) (k : ℕ) (u : Visit Place) → In u (region_visits d shape live k)
      → after u ≤ length live + (in_region k + total weight (region_order d x k))
  unfolding region_visits region_order placed spanned
  region_room zero live k u h = in_none h
  region_room (suc d) live k u h =
      let f = from_flat (block_visits (region_visits d shape) shape live) (blocks x k) h in
      omega (
        arith,
        block_room (region_visits d shape) (region_order d x) (region_room d) live f.parent u f.holds,
        in_total args f.listed,
        in_flat_total weight (block_order (region_order d x) x) (blocks x k) f.listed,
      )

  whole_room : (u : Visit Place) → In u (whole_visits shape) → after u ≤ total weight (order x)
  unfolding whole_visits order_to operation_order placed spanned
  whole_room u h =
      let f = from_flat (λ (i : ℕ). flat (region_visits max_depth shape []) (regions x i)) (functions x) h in
      let g = from_flat (region_visits max_depth shape []) (regions x f.parent) f.holds in
      omega (
        arith,
        region_room max_depth [] g.parent u g.holds,
        in_total in_region g.listed,
        in_flat_total weight (region_order max_depth x) (regions x f.parent) g.listed,
        in_flat_total weight (operation_order (region_order max_depth x) x) (functions x) f.listed,
      )

-- ---- an id past the count stands in no list

below_tail : (x : ℕ) (xs : List ℕ) (n : ℕ) → Below (x ∷ xs) n → Below xs n
below_tail x xs n h k l = h (suc k) (omega arith)

not_here : (i x n : ℕ) (t : Bool) → eqb x i ≡ t → x < n → n ≤ i → ◌≡◌ {A = ℕ} (cond t 1 0) 0
not_here i x n true e h g = absurd (omega (arith, eqb-true x i e))
not_here i x n false e h g = refl

count_past : (i n : ℕ) → n ≤ i → (xs : List ℕ) → Below xs n → count i xs ≡ 0
count_past i n g [] h = refl
count_past i n g (x ∷ xs) h = omega (arith, not_here i x n (eqb x i) refl (h 0 (omega arith)) g, count_past i n g xs (below_tail x xs n h))

flat_past : (i n : ℕ) → n ≤ i → (f : ℕ → List ℕ) → ((k : ℕ) → Below (f k) n) → (ks : List ℕ) → count i (flat f ks) ≡ 0
flat_past i n g f h [] = refl
flat_past i n g f h (k ∷ ks) = omega (arith, count_append i (f k) (flat f ks), count_past i n g (f k) (h k), flat_past i n g f h ks)

-- ---- so all that is live has room

module _ (x : Tables) (r : Nested x) (o : Once x) where
  operations_none : (i : ℕ) → x.counts.operations ≤ i → count i (listed_operations x) ≡ 0
  operations_none i g =
      omega (
        arith,
        count_append i (functions x) (flat (operations x) (below x.counts.blocks)),
        count_past i x.counts.operations g (functions x) r.functions_below,
        flat_past i x.counts.operations g (operations x) r.operations_below (below x.counts.blocks),
      )

  operations_once : (i : ℕ) → count i (listed_operations x) ≤ 1
  operations_once i = ⊎_elim (o.operations i) (λ g. omega (arith, operations_none i g)) (lt_or_ge i x.counts.operations)

  blocks_once : (j : ℕ) → count j (listed_blocks x) ≤ 1
  blocks_once j =
      ⊎_elim (o.blocks j) (λ g. omega (arith, flat_past j x.counts.blocks g (blocks x) r.blocks_below (below x.counts.regions)))
      (lt_or_ge j x.counts.blocks)

  regions_once : (k : ℕ) → count k (listed_regions x) ≤ 1
  regions_once k =
      ⊎_elim (o.regions k) (λ g. omega (arith, flat_past k x.counts.regions g (regions x) r.regions_below (below x.counts.operations)))
      (lt_or_ge k x.counts.regions)

  known : (i : ℕ) → 1 ≤ count i (listed_operations x) → i < x.counts.operations
  known i h = ⊎_elim (λ l. l) (λ g. absurd (omega (arith, operations_none i g))) (lt_or_ge i x.counts.operations)

  args_past : (j : ℕ) → x.counts.blocks ≤ j → (arguments_span x j).len ≡ 0
  unfolding arguments_span_in
  args_past j h = rw (le-ltb j x.counts.blocks h)

  opened : total (λ i. total (in_region x) (regions x i)) (below x.counts.operations) ≤ sum (args x) x.counts.blocks
  opened =
      omega (
        arith,
        total_flat (in_region x) (regions x) (below x.counts.operations),
        within_below (in_region x) (listed_regions x) x.counts.regions regions_once (λ k h. ap (total (args x)) (blocks_past x k h)),
        total_flat (args x) (blocks x) (below x.counts.regions),
        within_below (args x) (listed_blocks x) x.counts.blocks blocks_once args_past,
        total_sum (args x) x.counts.blocks,
      )

  brought : total (weight x) (order x) ≤ 8192
  brought =
      omega (
        arith,
        sum_within x operations_once blocks_once regions_once known (weight x),
        total_add (res x) (λ i. total (in_region x) (regions x i)) (below x.counts.operations),
        opened,
        total_sum (res x) x.counts.operations,
        sum_least (res x) (listed_by_operation x) (λ i. omega arith) x.counts.operations,
        sum_least (args x) (listed_by_block x) (λ j. omega arith) x.counts.blocks,
        r.entries_fit,
      )

  pub room_at : (u : Visit Place) → In u (whole_visits (placed (spanned x))) → FitsAt (λ live. length live ≤ 8192) (placed (spanned x)) u
  unfolding placed spanned
  room_at u h =
      let l = whole_room x u h in
      let g : length (u.live ++ (shape x).results u.op) ≤ 8192 = omega (arith, grown x u.live u.op, brought) in
      record { live = omega (arith, brought); results = g; inner = g }
