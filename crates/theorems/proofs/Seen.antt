-- Tables lent to reading back that have the nesting and the counts of accepted ones: of what it asks first, 2 and 3 pass, so code 1 alone
-- is left. Assumes nothing.
use Prim.Native.Nat.{ℕ, zero, suc, ◌+◌, ◌≤◌}
use native.Mathlib.Omega.{arith}
use mathlib.Core.Path.{◌≡◌, refl, ap, ◌∙◌}
use mathlib.Core.Logic.{⊎_elim}
use mathlib.Core.Option.{none}
use mathlib.Core.List.{List, [], ◌++◌}
use lib.ListN.{length}
use lib.Dec.{ltb}
use borrow.Author.Tests.{le-ltb, ne_eqb}
use Rattle.cells.specs.Lists.{from, below, flat, count, find}
use Rattle.cells.proofs.Rows.{lt_or_ge}
use Rattle.tables.specs.Sizes.{max_depth}
use Rattle.tables.specs.Tables.{Tables, functions, regions, blocks, operations, arguments, result_types, operands, arguments_span, result_types_span, operands_span}
use Rattle.tables.specs.Answer.{and_then, each, Answer}
use Rattle.std.specs.Prelude.{Ok, Err}
use Rattle.listed.specs.Twice.{listed_operations, listed_blocks, listed_regions, lowest_twice, refused, listed_twice}
use Rattle.walk.specs.Depth.{opens, operation_depth, block_depth, region_depth, too_deep}
use Rattle.walk.proofs.Totals.{hit, total_append, count_total, count_below, count_within}
use Rattle.table_checks.specs.Checks.{table_checks}
use Rattle.table_checks.proofs.Laws.{passes_3}
use Rattle.table_checks.proofs.Reach.{operations_once, blocks_once, regions_once}
use Rattle.nesting.specs.Live.{Nesting, nesting_of}
use Rattle.nesting.proofs.Past.{regions_past, blocks_past, operations_past}
use Rattle.nesting_check.specs.Checks.{nesting_ranges, nesting_checks}
use Rattle.read_back.specs.Alone.{spanned}

-- what is listed once is not found twice
none_twice : (xs : List ℕ) → ((i : ℕ) → count i xs ≤ 1) → (s n : ℕ) → find (λ i. ltb 1 (count i xs)) (from s n) ≡ none
none_twice xs once s zero = refl
none_twice xs once s (suc n) = rw (le-ltb 1 (count s xs) (once s)) (none_twice xs once (suc s) n)

lowest_none : (list : ℕ) (xs : List ℕ) (n : ℕ) → ((i : ℕ) → count i xs ≤ 1) → refused list (lowest_twice xs n) ≡ Ok tt
unfolding lowest_twice
lowest_none list xs n once = ap (refused list) (none_twice xs once 0 n)

from_past : (i s n : ℕ) → s + n ≤ i → count i (from s n) ≡ 0
from_past i s zero h = refl
from_past i s (suc n) h = rw (ne_eqb s i (λ e. omega arith)) (omega (arith, from_past i (suc s) n (omega arith)))

below_once : (n i : ℕ) → count i (below n) ≤ 1
below_once n i = ⊎_elim (λ h. omega (arith, count_below i n h)) (λ h. omega (arith, from_past i 0 n (omega arith))) (lt_or_ge i n)

-- of rows that list nothing from n on, the first m list no id more often than the first n
rows_within : (f g : ℕ → List ℕ) → f ≡ g → (m n : ℕ) → ((i : ℕ) → n ≤ i → g i ≡ []) → (i : ℕ) → count i (flat f (below m)) ≤ count i (flat g (below n))
rows_within f g e m n past i = rw e (count_within g (below m) n (below_once m) past i)

count_append : (i : ℕ) (xs ys : List ℕ) → count i (xs ++ ys) ≡ count i xs + count i ys
count_append i xs ys = omega (arith, count_total i (xs ++ ys), count_total i xs, count_total i ys, total_append (hit i) xs ys)

-- the premise, row by row
pub seen : (x y : Tables) → functions y ≡ functions x → ((i : ℕ) → regions y i ≡ regions x i) → ((k : ℕ) → blocks y k ≡ blocks x k)
    → ((j : ℕ) → operations y j ≡ operations x j) → ((j : ℕ) → (arguments_span y j).len ≡ length (arguments x j))
    → ((i : ℕ) → (result_types_span y i).len ≡ length (result_types x i)) → ((i : ℕ) → (operands_span y i).len ≡ length (operands x i))
    → spanned y ≡ nesting_of x
unfolding spanned nesting_of
seen x y fs rs bs os us ts vs = λ t. record {
  functions = fs t;
  regions = λ i. rs i t;
  blocks = λ k. bs k t;
  operations = λ j. os j t;
  arguments = λ j. us j t;
  results = λ i. ts i t;
  operands = λ i. vs i t;
}

module _ (x y : Tables) (e : table_checks x ≡ Ok tt) (same : spanned y ≡ nesting_of x) where
  same_functions : functions y ≡ functions x
  unfolding spanned nesting_of
  same_functions = ap (λ (n : Nesting). n.functions) same

  same_regions_lem : ◌≡◌ {A = ℕ → List ℕ} (regions y) (regions x)
  unfolding spanned nesting_of
  same_regions_lem = ap (λ (n : Nesting). n.regions) same

  same_blocks : ◌≡◌ {A = ℕ → List ℕ} (blocks y) (blocks x)
  unfolding spanned nesting_of
  same_blocks = ap (λ (n : Nesting). n.blocks) same

  same_operations_lem : ◌≡◌ {A = ℕ → List ℕ} (operations y) (operations x)
  unfolding spanned nesting_of
  same_operations_lem = ap (λ (n : Nesting). n.operations) same

  -- code 2, whatever the counts of y are
  operations_fine : (i : ℕ) → count i (listed_operations y) ≤ 1
  operations_fine i =
      omega (
        arith,
        count_append i (functions y) (flat (operations y) (below y.counts.blocks)),
        count_append i (functions x) (flat (operations x) (below x.counts.blocks)),
        ap (count i) same_functions,
        rows_within (operations y) (operations x) same_operations_lem y.counts.blocks x.counts.blocks (operations_past x) i,
        operations_once x e i,
      )

  blocks_fine : (j : ℕ) → count j (listed_blocks y) ≤ 1
  blocks_fine j =
      omega (arith, rows_within (blocks y) (blocks x) same_blocks y.counts.regions x.counts.regions (blocks_past x) j, blocks_once x e j)

  regions_fine : (k : ℕ) → count k (listed_regions y) ≤ 1
  regions_fine k =
      omega (arith, rows_within (regions y) (regions x) same_regions_lem y.counts.operations x.counts.operations (regions_past x) k, regions_once x e k)

  two : listed_twice y ≡ Ok tt
  unfolding listed_twice
  two =
      rw (
        lowest_none 0 (listed_operations y) y.counts.operations operations_fine,
        lowest_none 1 (listed_blocks y) y.counts.blocks blocks_fine,
        lowest_none 2 (listed_regions y) y.counts.regions regions_fine,
      )

  -- code 3
  region_depth_lem : (d : ℕ) → region_depth d y ≡ region_depth d x
  unfolding region_depth block_depth operation_depth
  region_depth_lem zero = λ t. λ i k. opens i (same_blocks t k)
  region_depth_lem (suc d) = λ t. λ i k. each (λ j. each (λ o. each (region_depth_lem d t o) (same_regions_lem t o)) (same_operations_lem t j)) (same_blocks t k)

  depth_same : too_deep y ≡ too_deep x
  unfolding too_deep operation_depth
  depth_same = λ t. each (λ o. each (region_depth_lem max_depth t o) (same_regions_lem t o)) (same_functions t)

  three : too_deep y ≡ Ok tt
  three = depth_same ∙ passes_3 x e

  -- so what is asked first is code 1 of y
  pub checks_are : nesting_checks y ≡ nesting_ranges y
  unfolding nesting_checks
  checks_are = rw (two, three) (rest (nesting_ranges y))
    where
      rest : (a : Answer) → and_then a (Ok tt) ≡ a
      rest (Ok _) = refl
      rest (Err r) = refl
