-- Card 10, "Depth 32 passes, 33 is code 3": a function with blocks nested one in another, by computation. Assumes nothing.
use Prim.Native.Nat.{ℕ, ◌+◌, ◌*◌}
use mathlib.Core.Path.{◌≡◌, refl}
use mathlib.Core.List.{[], ◌∷◌}
use Rattle.cells.specs.Lists.{below, flat}
use Rattle.tables.specs.Tables.{Tables, nest}
use Rattle.tables.specs.Layout.{functions_in, regions_in, regions_span_in, blocks_in, blocks_span_in, operations_in, operations_span_in}
use Rattle.std.specs.Prelude.{Ok, Err}
use Rattle.tables.specs.declared.Refusal.TheVariants.{TooDeep}
use Rattle.walk.specs.Order.{operation_order, block_order, region_order, order_to, order}
use Rattle.walk.specs.Depth.{operation_depth, block_depth, region_depth, too_deep}

-- operation i has region i, region i has block i, block i has operation i + 1; the last operation has no region
abbrev nested : ℕ → Tables
nested d = nest
    (flat (λ i. 0 ∷ 0 ∷ 0 ∷ 0 ∷ 0 ∷ (3 * i) ∷ 1 ∷ 0 ∷ 0 ∷ 0 ∷ 0 ∷ 0 ∷ 0 ∷ 0 ∷ 0 ∷ 0 ∷ []) (below d))
    (flat (λ i. 0 ∷ 0 ∷ (3 * i + 2) ∷ 1 ∷ []) (below d))
    (flat (λ i. (3 * i + 1) ∷ 1 ∷ []) (below d))
    (0 ∷ [])
    (flat (λ i. i ∷ i ∷ (i + 1) ∷ []) (below d))
    (record { types = 0; values = 0; operations = d + 1; attributes = 0; blocks = d; regions = d; functions = 1 })

depth_32 : too_deep (nested 32) ≡ Ok tt
unfolding too_deep region_depth block_depth operation_depth functions_in regions_in regions_span_in blocks_in blocks_span_in operations_in operations_span_in
depth_32 = refl

depth_33 : too_deep (nested 33) ≡ Err (TooDeep 32)
unfolding too_deep region_depth block_depth operation_depth functions_in regions_in regions_span_in blocks_in blocks_span_in operations_in operations_span_in
depth_33 = refl

order_32 : order (nested 32) ≡ below 33
unfolding order_to region_order block_order operation_order functions_in regions_in regions_span_in blocks_in blocks_span_in operations_in operations_span_in
order_32 = refl
