-- The reachable operations in walk order: "every reachable operation, outer before inner, the function operation included";
-- "Functions, regions, blocks and operations go in list order."
use Rattle.std.specs.Prelude.{ℕ, zero, suc, List, [], ◌∷◌}
use Rattle.cells.specs.Lists.{flat}
use Rattle.tables.specs.Sizes.{max_depth}
use Rattle.tables.specs.Tables.{Tables, functions, regions, blocks, operations}

-- operation i, then what its regions hold, each walked by `inner`
unfoldable pub operation_order : (ℕ → List ℕ) → Tables → ℕ → List ℕ
operation_order inner x i = i ∷ flat inner (regions x i)

unfoldable pub block_order : (ℕ → List ℕ) → Tables → ℕ → List ℕ
block_order inner x j = flat (operation_order inner x) (operations x j)

-- region k, no deeper than d blocks
unfoldable pub region_order : ℕ → Tables → ℕ → List ℕ
region_order zero x k = []
region_order (suc d) x k = flat (block_order (region_order d x) x) (blocks x k)

-- the operations no deeper than d blocks
unfoldable pub order_to : ℕ → Tables → List ℕ
order_to d x = flat (operation_order (region_order d x) x) (functions x)

-- "block depth 32": where code 3 passes there are no others
abbrev pub order : Tables → List ℕ
order x = order_to max_depth x
