-- When two sets of tables have the same nesting: entries that do not count list nothing, so those that count decide. Assumes nothing.
use Prim.Native.Nat.{ℕ, ◌<◌, ◌≤◌}
use native.Mathlib.Omega.{arith}
use mathlib.Core.Path.{◌≡◌, refl, ap, sym, ◌∙◌, fun_ext}
use mathlib.Core.Bool.{Bool, true, false}
use mathlib.Core.List.{[]}
use lib.ListN.{length}
use lib.Dec.{ltb}
use borrow.Author.Tests.{ltb-true, ltb-false}
use Rattle.tables.specs.Tables.{Tables, regions, blocks, operations, arguments, result_types, operands}
use Rattle.nesting.specs.Live.{nesting_of}
use Rattle.nesting.specs.Alike.{Alike}
use Rattle.nesting.proofs.Past.{regions_past, blocks_past, operations_past, arguments_past, results_past, operands_past}

rows : {A : Type 0} (n n' : ℕ) → n ≡ n' → (f f' : ℕ → A) (z : A)
    → ((i : ℕ) → n ≤ i → f i ≡ z) → ((i : ℕ) → n' ≤ i → f' i ≡ z) → ((i : ℕ) → i < n → f i ≡ f' i) → f ≡ f'
rows n n' e f f' z p p' h = fun_ext (λ i. go i (ltb i n) refl)
  where
    go : (i : ℕ) (b : Bool) → ltb i n ≡ b → f i ≡ f' i
    go i true q = h i (ltb-true i n q)
    go i false q = let g : n ≤ i = ltb-false i n q in p i g ∙ sym (p' i (omega arith))

module _ (x y : Tables) (a : Alike x y) where
  by_operations : {A : Type 0} (f g : ℕ → A) (z : A)
      → ((i : ℕ) → x.counts.operations ≤ i → f i ≡ z) → ((i : ℕ) → y.counts.operations ≤ i → g i ≡ z)
      → ((i : ℕ) → i < x.counts.operations → f i ≡ g i) → f ≡ g
  by_operations = rows x.counts.operations y.counts.operations a.operations_count

  by_blocks : {A : Type 0} (f g : ℕ → A) (z : A)
      → ((j : ℕ) → x.counts.blocks ≤ j → f j ≡ z) → ((j : ℕ) → y.counts.blocks ≤ j → g j ≡ z)
      → ((j : ℕ) → j < x.counts.blocks → f j ≡ g j) → f ≡ g
  by_blocks = rows x.counts.blocks y.counts.blocks a.blocks_count

  pub nesting_same : nesting_of x ≡ nesting_of y
  unfolding nesting_of
  nesting_same =
      let same_regions : regions x ≡ regions y = by_operations (regions x) (regions y) [] (regions_past x) (regions_past y) a.regions in
      let same_blocks : blocks x ≡ blocks y =
      rows x.counts.regions y.counts.regions a.regions_count (blocks x) (blocks y) [] (blocks_past x) (blocks_past y) a.blocks in
      let same_operations : operations x ≡ operations y =
      by_blocks (operations x) (operations y) [] (operations_past x) (operations_past y) a.operations in
      let same_arguments : ◌≡◌ {A = ℕ → ℕ} (λ j. length (arguments x j)) (λ j. length (arguments y j)) =
      by_blocks (λ j. length (arguments x j)) (λ j. length (arguments y j)) 0
      (λ j h. ap length (arguments_past x j h)) (λ j h. ap length (arguments_past y j h)) a.arguments in
      let same_results : ◌≡◌ {A = ℕ → ℕ} (λ i. length (result_types x i)) (λ i. length (result_types y i)) =
      by_operations (λ i. length (result_types x i)) (λ i. length (result_types y i)) 0
      (λ i h. ap length (results_past x i h)) (λ i h. ap length (results_past y i h)) a.results in
      let same_operands : ◌≡◌ {A = ℕ → ℕ} (λ i. length (operands x i)) (λ i. length (operands y i)) =
      by_operations (λ i. length (operands x i)) (λ i. length (operands y i)) 0
      (λ i h. ap length (operands_past x i h)) (λ i h. ap length (operands_past y i h)) a.operands in
      λ i. record {
        functions = a.functions i;
        regions = same_regions i;
        blocks = same_blocks i;
        operations = same_operations i;
        arguments = same_arguments i;
        results = same_results i;
        operands = same_operands i;
      }
