-- The walk: region visits blocks, block visits operations, operation visits regions, on a falling remaining depth. Each loop judges and
-- writes the ids of one list. Assumes nothing.
use Rattle.std.proofs.Common.{◌-◌, ◌+◌, ◌*◌}
use Rattle.walk.specs.Order.{operation_order, block_order, region_order}
use Rattle.walk.specs.Depth.{operation_depth, block_depth, region_depth}
use Rattle.walk.proofs.Visits.{Going}
use Rattle.walk.proofs.+visit_block_visit_operation_visit_region.Given as goal

abbrev pub decreases-visit_block : goal.decreases-visit_block
decreases-visit_block z = 3 * z.depth + 2

abbrev pub decreases-visit_operation : goal.decreases-visit_operation
decreases-visit_operation z = 3 * z.depth + 1

abbrev pub decreases-visit_region : goal.decreases-visit_region
decreases-visit_region z = 3 * z.depth

abbrev pub invariant-visit_block-loop-operation : goal.invariant-visit_block-loop-operation
invariant-visit_block-loop-operation z =
    Going (operation_depth (region_depth z.depth z.x) z.x) (operation_order (region_order z.depth z.x) z.x) z.operation-items
    z.initial.out z.initial.next z.out z.next z.operation-index

abbrev pub invariant-visit_operation-loop-region : goal.invariant-visit_operation-loop-region
invariant-visit_operation-loop-region z =
    Going (region_depth z.depth z.x z.id) (region_order z.depth z.x) z.region-items z.initial.out z.initial.next z.out z.next z.region-index

abbrev pub invariant-visit_region-loop-block : goal.invariant-visit_region-loop-block
invariant-visit_region-loop-block z =
    Going (block_depth (region_depth (z.depth - 1) z.x) z.x) (block_order (region_order (z.depth - 1) z.x) z.x) z.blocks
    z.initial.out z.initial.next z.out z.next z.block-index
