-- Past its count an entry lists nothing. Assumes nothing.
use Prim.Native.Nat.{ℕ, ◌<◌, ◌≤◌}
use mathlib.Core.Path.{◌≡◌, refl, subst}
use mathlib.Core.Bool.{Bool, true, false}
use mathlib.Core.List.{List, []}
use lib.Dec.{ltb}
use borrow.Author.Tests.{ltb-true, ltb-false, le-ltb}
use Rattle.tables.specs.Layout.{result_types_span_in, result_types_in, operands_span_in, operands_in, regions_span_in, regions_in, arguments_span_in, arguments_in, operations_span_in, operations_in, blocks_span_in, blocks_in}
use Rattle.tables.specs.Tables.{Tables, regions, blocks, operations, arguments, result_types, operands}
use Rattle.nesting.specs.In.{In}
use Rattle.nesting.proofs.Lists.{in_none}

module _ (x : Tables) where
  pub regions_past : (i : ℕ) → x.counts.operations ≤ i → regions x i ≡ []
  unfolding regions_in regions_span_in
  regions_past i h = rw (le-ltb i x.counts.operations h)

  pub blocks_past : (k : ℕ) → x.counts.regions ≤ k → blocks x k ≡ []
  unfolding blocks_in blocks_span_in
  blocks_past k h = rw (le-ltb k x.counts.regions h)

  pub operations_past : (j : ℕ) → x.counts.blocks ≤ j → operations x j ≡ []
  unfolding operations_in operations_span_in
  operations_past j h = rw (le-ltb j x.counts.blocks h)

  pub arguments_past : (j : ℕ) → x.counts.blocks ≤ j → arguments x j ≡ []
  unfolding arguments_in arguments_span_in
  arguments_past j h = rw (le-ltb j x.counts.blocks h)

  pub results_past : (i : ℕ) → x.counts.operations ≤ i → result_types x i ≡ []
  unfolding result_types_in result_types_span_in
  results_past i h = rw (le-ltb i x.counts.operations h)

  pub operands_past : (i : ℕ) → x.counts.operations ≤ i → operands x i ≡ []
  unfolding operands_in operands_span_in
  operands_past i h = rw (le-ltb i x.counts.operations h)

-- so an entry that lists something counts
pub row_in : (f : ℕ → List ℕ) (n : ℕ) → ((i : ℕ) → n ≤ i → f i ≡ []) → (y j : ℕ) → In y (f j) → j < n
row_in f n past y j p = go (ltb j n) refl
  where
    go : (b : Bool) → ltb j n ≡ b → j < n
    go true e = ltb-true j n e
    go false e = in_none (subst (λ (z : List ℕ). In y z) (past j (ltb-false j n e)) p)
