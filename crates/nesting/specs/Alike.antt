-- Two sets of tables with the same nesting and counts, entry by entry: "Nesting is the lists of functions, regions, blocks and operations,
-- ids and order included."
use Rattle.std.specs.Prelude.{ℕ, ◌<◌, ◌≡◌, length}
use Rattle.tables.specs.Tables.{Tables, functions, regions, blocks, operations, arguments, result_types, operands}

pub record Alike (x y : Tables) : Type 0 where
  pub operations_count : x.counts.operations ≡ y.counts.operations
  pub blocks_count : x.counts.blocks ≡ y.counts.blocks
  pub regions_count : x.counts.regions ≡ y.counts.regions
  pub functions : functions x ≡ functions y
  pub regions : (i : ℕ) → i < x.counts.operations → regions x i ≡ regions y i
  pub blocks : (k : ℕ) → k < x.counts.regions → blocks x k ≡ blocks y k
  pub operations : (j : ℕ) → j < x.counts.blocks → operations x j ≡ operations y j
  pub arguments : (j : ℕ) → j < x.counts.blocks → length (arguments x j) ≡ length (arguments y j)
  pub results : (i : ℕ) → i < x.counts.operations → length (result_types x i) ≡ length (result_types y i)
  pub operands : (i : ℕ) → i < x.counts.operations → length (operands x i) ≡ length (operands y i)
