-- What code 2 hands over where it passes: no id stands twice in all the lists of its kind, the functions with the operations.
use Rattle.std.specs.Prelude.{ℕ, ◌<◌, ◌≤◌}
use Rattle.cells.specs.Lists.{count}
use Rattle.tables.specs.Tables.{Tables}
use Rattle.listed.specs.Twice.{listed_operations, listed_blocks, listed_regions}

pub record Once (x : Tables) : Type 0 where
  pub operations : (i : ℕ) → i < x.counts.operations → count i (listed_operations x) ≤ 1
  pub blocks : (j : ℕ) → j < x.counts.blocks → count j (listed_blocks x) ≤ 1
  pub regions : (k : ℕ) → k < x.counts.regions → count k (listed_regions x) ≤ 1
