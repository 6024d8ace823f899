-- The walk: region visits blocks, block visits operations, operation visits its regions in turn, on a falling remaining depth.
-- Each loop visits the ids of one list. Assumes nothing.
use Prim.Native.Nat.{◌+◌, ◌*◌}
use Rattle.dominance.specs.Walk.{after, region_judged, block_judged, operation_judged}
use Rattle.dominance.proofs.Walks.{Loop, same}
use Rattle.dominance.proofs.+visit_block_visit_operation_visit_region_visit_regions.Given as goal

abbrev pub decreases-visit_block : goal.decreases-visit_block
decreases-visit_block g l = 4 * l.scope.depth + 3

abbrev pub decreases-visit_operation : goal.decreases-visit_operation
decreases-visit_operation g l = 4 * l.scope.depth + 2

abbrev pub decreases-visit_region : goal.decreases-visit_region
decreases-visit_region g l = 4 * l.scope.depth

abbrev pub decreases-visit_regions : goal.decreases-visit_regions
decreases-visit_regions g l = 4 * l.scope.depth + 1

abbrev pub invariant-visit_block-loop-operation : goal.invariant-visit_block-loop-operation
invariant-visit_block-loop-operation g z =
    Loop z.x z.claims.bases.now z.claims.claims.now operation_judged after z.operation-items z.initial.stack z.initial.inside z.stack z.inside z.operation-index

abbrev pub invariant-visit_region-loop-block : goal.invariant-visit_region-loop-block
invariant-visit_region-loop-block g z =
    Loop z.x z.claims.bases.now z.claims.claims.now block_judged same z.block-items z.initial.stack z.initial.s z.stack z.s z.block-index

abbrev pub invariant-visit_regions-loop-region : goal.invariant-visit_regions-loop-region
invariant-visit_regions-loop-region g z =
    Loop z.x z.claims.bases.now z.claims.claims.now region_judged same z.regions z.initial.stack z.initial.s z.stack z.s z.region-index
