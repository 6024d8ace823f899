-- How long the lists are: a visit that is fine writes one number for each operand, and no walk has more operands than lists have entries.
-- Assumes nothing.
use Prim.Native.Nat.{ℕ, zero, suc, ◌+◌, ◌-◌, ◌≤◌}
use native.Mathlib.Omega.{arith}
use mathlib.Core.Path.{◌≡◌, refl, sym, ap, ◌∙◌, subst}
use mathlib.Core.Bool.{Bool, true, false, cond}
use mathlib.Core.Option.{Option, some, none}
use mathlib.Core.List.{List, [], ◌∷◌, ◌++◌}
use lib.Dec.{eqb}
use lib.ListN.{length, length-append}
use Rattle.cells.specs.Lists.{from, below, flat}
use Rattle.tables.specs.Place.{position_from}
use Rattle.tables.specs.Sheet.{fixed_count_in}
use Rattle.tables.specs.Sizes.{max_depth, max_entries}
use Rattle.tables.specs.Tables.{Tables, functions, regions, blocks, operations, opcode, operands, result_types}
use Rattle.std.specs.Prelude as std
use Rattle.std.specs.Prelude.{Ok, Some, None}
use Rattle.tables.specs.declared.Place.{Place}
use Rattle.tables.specs.declared.Place.TheVariants.{Result}
use Rattle.tables.specs.declared.Refusal.{Refusal}
use Rattle.tables.specs.declared.Refusal.TheVariants.{NoNumber, NoValue, ResultCount}
use Rattle.ranges.specs.Range.{sum, listed_by_operation}
use Rattle.walk.specs.Order.{operation_order, block_order, region_order, order_to, order}
use Rattle.walk.specs.Total.{total}
use Rattle.walk.proofs.Totals.{total_append}
use Rattle.table_checks.specs.Checks.{table_checks}
use Rattle.table_checks.proofs.Laws.{passes_1}
use Rattle.table_checks.proofs.Reach.{sum_within}
use Rattle.nesting.specs.Shape.{Shape, Visit, visit, operation_visits, operations_visits, block_visits, region_visits, first, entry_visits}
use Rattle.nesting.specs.Live.{nesting_of, placed, valued, value_at}
use Rattle.nesting.specs.Numbering.{Listing, fine, refused, join, collect, found, there, counted, values_there}
use Rattle.nesting.specs.Direct.{look_up, numbers_among}
use Rattle.nesting.specs.Ask.{listings, all, of_first, fold_operation, fold_operations, fold_block, fold_region}
use Rattle.nesting.proofs.Lists.{flat_append}
use Rattle.scope.specs.Stack.{see_all}
use Rattle.numbering.specs.Alone.{size}
use Rattle.numbering_walk.specs.Walk.{region_numbered, block_numbered, function_numbered}

-- a list of n numbers, or a refusal
abbrev Sized : Listing ℕ → ℕ → Type 0
Sized (fine xs) n = length xs ≡ n
Sized (refused r) n = Unit

sized_is : (a : Listing ℕ) {m n : ℕ} → Sized a m → m ≡ n → Sized a n
sized_is a h e = subst (Sized a) e h

sized_join : (a b : Listing ℕ) (m n : ℕ) → Sized a m → Sized b n → Sized (join a b) (m + n)
sized_join (refused r) b m n h g = tt
sized_join (fine xs) (refused r) m n h g = tt
sized_join (fine xs) (fine ys) m n h g = omega (arith, length-append xs ys, h, g)

-- ---- at an operation

found_sized : (p : Option ℕ) (r : Refusal) → Sized (found p r) 1
found_sized (some k) r = refl
found_sized none r = tt

look_sized : (live : List ℕ) (i k : ℕ) (vs : List ℕ) → Sized (look_up live i k vs) (length vs)
look_sized live i k [] = refl
look_sized live i k (v ∷ vs) =
    sized_is (look_up live i k (v ∷ vs))
    (sized_join (found (position_from 0 v live) (NoNumber i k)) (look_up live i (suc k) vs) 1 (length vs) (found_sized (position_from 0 v live) (NoNumber i k)) (look_sized live i (suc k) vs))
    (omega arith)

counted_sized : (f : std.Option ℕ) (i n : ℕ) → Sized (counted f i n) 0
counted_sized None i n = refl
counted_sized (Some m) i n = go (eqb m n)
  where
    go : (t : Bool) → Sized (cond t (fine []) (refused (ResultCount i n))) 0
    go true = refl
    go false = tt

there_sized : (p : Option ℕ) (r : Refusal) → Sized (there p r) 0
there_sized (some k) r = refl
there_sized none r = tt

values_sized : (h : ℕ → Listing ℕ) → ((k : ℕ) → Sized (h k) 0) → (ks : List ℕ) → Sized (collect h ks) 0
values_sized h e [] = refl
values_sized h e (k ∷ ks) = sized_is (collect h (k ∷ ks)) (sized_join (h k) (collect h ks) 0 0 (e k) (values_sized h e ks)) (omega arith)

-- how many operands the operations of visits have
module _ (x : Tables) where
  abbrev cost : List (Visit Place) → ℕ
  cost us = length (flat (λ (u : Visit Place). operands x u.op) us)

  abbrev shape : Shape Place
  shape = placed (nesting_of x)

  cost_append : (us vs : List (Visit Place)) → cost (us ++ vs) ≡ cost us + cost vs
  cost_append us vs =
      let f : Visit Place → List ℕ = λ u. operands x u.op in
      ap length (flat_append f us vs) ∙ length-append (flat f us) (flat f vs)

  module _ (sheet : List ℕ) where
    among_sized : (live : List ℕ) (i : ℕ) → Sized (numbers_among sheet x (visit i live)) (length (operands x i))
    unfolding numbers_among
    among_sized live i =
        let look = look_up live i 0 (operands x i) in
        let count = counted (fixed_count_in sheet (opcode x i)) i (length (result_types x i)) in
        sized_is (join look (join count (values_there x i)))
        (sized_join look (join count (values_there x i)) (length (operands x i)) 0 (look_sized live i 0 (operands x i))
        (sized_join count (values_there x i) 0 0 (counted_sized (fixed_count_in sheet (opcode x i)) i (length (result_types x i)))
        (values_sized (λ k. there (value_at x (Result i k)) (NoValue i k)) (λ k. there_sized (value_at x (Result i k)) (NoValue i k)) (below (length (result_types x i))))))
        (omega arith)

    -- what f lists of each is as long as what g visits of each has operands
    all_sized : (f : ℕ → Listing ℕ) (g : ℕ → List (Visit Place)) → ((k : ℕ) → Sized (f k) (cost (g k))) → (ks : List ℕ) → Sized (all listings f ks) (cost (flat g ks))
    all_sized f g h [] = refl
    all_sized f g h (k ∷ ks) =
        sized_is (all listings f (k ∷ ks)) (sized_join (f k) (all listings f ks) (cost (g k)) (cost (flat g ks)) (h k) (all_sized f g h ks)) (sym (cost_append (g k) (flat g ks)))

    first_sized : (f : ℕ → Listing ℕ) (g : ℕ → List (Visit Place)) → ((k : ℕ) → Sized (f k) (cost (g k))) → (ks : List ℕ) → Sized (of_first listings f ks) (cost (first g ks))
    first_sized f g h [] = refl
    first_sized f g h (k ∷ ks) = h k

    abbrev grow : List ℕ → List ℕ → List ℕ
    grow = see_all x.counts.values

    module _ (inside : List ℕ → ℕ → Listing ℕ) (g : List Place → ℕ → List (Visit Place))
        (ih : (live : List ℕ) (ps : List Place) (k : ℕ) → Sized (inside live k) (cost (g ps k))) where
      operation_sized : (live : List ℕ) (ps : List Place) (i : ℕ)
          → Sized (fold_operation listings grow (numbers_among sheet x) (valued x) inside live i) (cost (operation_visits g shape ps i))
      unfolding fold_operation operation_visits valued placed nesting_of
      operation_sized live ps i =
          let live' = grow live ((valued x).inner i) in
          let ps' = ps ++ shape.inner i in
          sized_is (join (numbers_among sheet x (visit i live)) (all listings (inside live') (regions x i)))
          (sized_join (numbers_among sheet x (visit i live)) (all listings (inside live') (regions x i)) (length (operands x i)) (cost (flat (g ps') (regions x i))) (among_sized live i)
          (all_sized (inside live') (g ps') (ih live' ps') (regions x i)))
          (sym (length-append (operands x i) (flat (λ (u : Visit Place). operands x u.op) (flat (g ps') (regions x i)))))

      operations_sized : (live : List ℕ) (ps : List Place) (is : List ℕ)
          → Sized (fold_operations listings grow (numbers_among sheet x) (valued x) inside live is) (cost (operations_visits g shape ps is))
      operations_sized live ps [] = refl
      operations_sized live ps (i ∷ is) =
          let one = fold_operation listings grow (numbers_among sheet x) (valued x) inside live i in
          let rest = fold_operations listings grow (numbers_among sheet x) (valued x) inside (grow live ((valued x).results i)) is in
          sized_is (join one rest)
          (sized_join one rest (cost (operation_visits g shape ps i)) (cost (operations_visits g shape (ps ++ shape.results i) is)) (operation_sized live ps i) (operations_sized (grow live ((valued x).results i)) (ps ++ shape.results i) is))
          (sym (cost_append (operation_visits g shape ps i) (operations_visits g shape (ps ++ shape.results i) is)))

      block_sized : (live : List ℕ) (ps : List Place) (j : ℕ)
          → Sized (fold_block listings grow (numbers_among sheet x) (valued x) inside live j) (cost (block_visits g shape ps j))
      unfolding fold_block block_visits valued placed nesting_of
      block_sized live ps j = operations_sized (grow live ((valued x).arguments j)) (ps ++ shape.arguments j) (operations x j)

    region_sized : (d : ℕ) (live : List ℕ) (ps : List Place) (k : ℕ) → Sized (region_numbered sheet x d live k) (cost (region_visits d shape ps k))
    unfolding fold_region region_visits valued placed nesting_of
    region_sized zero live ps k = refl
    region_sized (suc d) live ps k =
        all_sized (block_numbered sheet x d live) (block_visits (region_visits d shape) shape ps)
        (block_sized (region_numbered sheet x d) (region_visits d shape) (region_sized d) live ps) (blocks x k)

    entry_sized : (f : ℕ) → Sized (function_numbered sheet x f) (size x f)
    unfolding entry_visits placed nesting_of size
    entry_sized f =
        first_sized (λ k. of_first listings (block_numbered sheet x (max_depth - 1) []) (blocks x k)) (λ k. first (block_visits (region_visits (max_depth - 1) shape) shape []) (blocks x k))
        (λ k. first_sized (block_numbered sheet x (max_depth - 1) []) (block_visits (region_visits (max_depth - 1) shape) shape [])
        (block_sized (region_numbered sheet x (max_depth - 1)) (region_visits (max_depth - 1) shape) (region_sized (max_depth - 1)) [] []) (blocks x k)) (regions x f)

    -- a function has one number for each operand of its entry walk
    pub function_size : (f : ℕ) (ys : List ℕ) → function_numbered sheet x f ≡ fine ys → length ys ≡ size x f
    function_size f ys e = subst (λ (a : Listing ℕ). Sized a (size x f)) e (entry_sized f)

  -- ---- all entry walks together

  abbrev own : ℕ → ℕ
  own i = length (operands x i)

  flat_cost : (g : ℕ → List (Visit Place)) (h : ℕ → List ℕ) → ((k : ℕ) → cost (g k) ≡ total own (h k)) → (ks : List ℕ) → cost (flat g ks) ≡ total own (flat h ks)
  flat_cost g h e [] = refl
  flat_cost g h e (k ∷ ks) = omega (arith, cost_append (g k) (flat g ks), total_append own (h k) (flat h ks), e k, flat_cost g h e ks)

  first_cost : (g : ℕ → List (Visit Place)) (h : ℕ → List ℕ) → ((k : ℕ) → cost (g k) ≤ total own (h k)) → (ks : List ℕ) → cost (first g ks) ≤ total own (flat h ks)
  first_cost g h e [] = omega arith
  first_cost g h e (k ∷ ks) = omega (arith, total_append own (h k) (flat h ks), e k)

  module _ (g : List Place → ℕ → List (Visit Place)) (inner : ℕ → List ℕ) (ih : (ps : List Place) (k : ℕ) → cost (g ps k) ≡ total own (inner k)) where
    operation_cost : (ps : List Place) (i : ℕ) → cost (operation_visits g shape ps i) ≡ total own (operation_order inner x i)
    unfolding operation_visits operation_order placed nesting_of
    operation_cost ps i =
        let ps' = ps ++ shape.inner i in
        omega (
          arith,
          length-append (operands x i) (flat (λ (u : Visit Place). operands x u.op) (flat (g ps') (regions x i))),
          flat_cost (g ps') inner (ih ps') (regions x i),
        )

    operations_cost : (ps : List Place) (is : List ℕ) → cost (operations_visits g shape ps is) ≡ total own (flat (operation_order inner x) is)
    operations_cost ps [] = refl
    operations_cost ps (i ∷ is) =
        omega (
          arith,
          cost_append (operation_visits g shape ps i) (operations_visits g shape (ps ++ shape.results i) is),
          total_append own (operation_order inner x i) (flat (operation_order inner x) is),
          operation_cost ps i,
          operations_cost (ps ++ shape.results i) is,
        )

    block_cost : (ps : List Place) (j : ℕ) → cost (block_visits g shape ps j) ≡ total own (block_order inner x j)
    unfolding block_visits block_order placed nesting_of
    block_cost ps j = operations_cost (ps ++ shape.arguments j) (operations x j)

  region_cost : (d : ℕ) (ps : List Place) (k : ℕ) → cost (region_visits d shape ps k) ≡ total own (region_order d x k)
  unfolding region_visits region_order placed nesting_of
  region_cost zero ps k = refl
  region_cost (suc d) ps k =
      flat_cost (block_visits (region_visits d shape) shape ps) (block_order (region_order d x) x)
      (block_cost (region_visits d shape) (region_order d x) (region_cost d) ps) (blocks x k)

  entry_cost : (f : ℕ) → size x f ≤ total own (operation_order (region_order max_depth x) x f)
  unfolding size entry_visits operation_order region_order placed nesting_of
  entry_cost f =
      let one : (j : ℕ) → cost (block_visits (region_visits (max_depth - 1) shape) shape [] j) ≡ total own (block_order (region_order (max_depth - 1) x) x j) =
      block_cost (region_visits (max_depth - 1) shape) (region_order (max_depth - 1) x) (region_cost (max_depth - 1)) [] in
      omega (
        arith,
        first_cost (λ k. first (block_visits (region_visits (max_depth - 1) shape) shape []) (blocks x k)) (λ k. flat (block_order (region_order (max_depth - 1) x) x) (blocks x k))
            (λ k. first_cost (block_visits (region_visits (max_depth - 1) shape) shape []) (block_order (region_order (max_depth - 1) x) x) (λ j. omega (arith, one j)) (blocks x k))
            (regions x f),
      )

  entries_cost : (fs : List ℕ) → total (size x) fs ≤ total own (flat (operation_order (region_order max_depth x) x) fs)
  entries_cost [] = omega arith
  entries_cost (f ∷ fs) =
      omega (
        arith,
        total_append own (operation_order (region_order max_depth x) x f) (flat (operation_order (region_order max_depth x) x) fs),
        entry_cost f,
        entries_cost fs,
      )

  order_cost : total (size x) (functions x) ≤ total own (order x)
  unfolding order_to
  order_cost = entries_cost (functions x)

-- ---- totals

total_last : (f : ℕ → ℕ) (s n : ℕ) → total f (from s (suc n)) ≡ total f (from s n) + f (s + n)
total_last f s zero = let e : s + 0 ≡ s = omega arith in rw e (omega arith)
total_last f s (suc n) = let e : s + suc n ≡ suc s + n = omega arith in rw e (omega (arith, total_last f (suc s) n))

total_sum : (f : ℕ → ℕ) (n : ℕ) → total f (below n) ≡ sum f n
total_sum f zero = refl
total_sum f (suc n) = total_last f 0 n ∙ (let e : 0 + n ≡ n = omega arith in rw e (ap (λ (m : ℕ). m + f n) (total_sum f n)))

sum_least : (f g : ℕ → ℕ) → ((i : ℕ) → f i ≤ g i) → (n : ℕ) → sum f n ≤ sum g n
sum_least f g h zero = omega arith
sum_least f g h (suc n) = omega (arith, sum_least f g h n, h n)

-- "list entries 8,192 in all": where the checks pass, the list of all numbers is no longer
pub all_fit_lem : (x : Tables) → table_checks x ≡ Ok tt → total (size x) (functions x) ≤ max_entries
all_fit_lem x e =
    let s = sum_least (own x) (listed_by_operation x) (λ i. let q = (passes_1 x e).operands_whole i in omega (arith, q)) x.counts.operations in
    omega (arith, order_cost x, sum_within x e (own x), total_sum (own x) x.counts.operations, s, (passes_1 x e).entries_fit)
