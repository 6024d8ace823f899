-- The walk: region visits blocks, block visits operations, operation visits its regions in turn, on a falling remaining depth.
-- Each loop visits the ids of one list; what the walk does not read stands in no answer, so what is shown holds with any. Assumes nothing.
use Prim.Native.Nat.{◌+◌, ◌*◌}
use Rattle.numbering_walk.specs.Walk.{after, region_numbered, block_numbered, operation_numbered}
use Rattle.numbering_walk.proofs.Walks.{Loop, same}
use Rattle.numbering_walk.proofs.+visit_block_visit_operation_visit_region_visit_regions.Given as goal

abbrev pub decreases-visit_block : goal.decreases-visit_block
decreases-visit_block l = 4 * l.from.scope.depth + 3

abbrev pub decreases-visit_operation : goal.decreases-visit_operation
decreases-visit_operation l = 4 * l.from.scope.depth + 2

abbrev pub decreases-visit_region : goal.decreases-visit_region
decreases-visit_region l = 4 * l.from.scope.depth

abbrev pub decreases-visit_regions : goal.decreases-visit_regions
decreases-visit_regions l = 4 * l.from.scope.depth + 1

abbrev pub invariant-visit_block-loop-operation : goal.invariant-visit_block-loop-operation
invariant-visit_block-loop-operation z =
    Loop z.x z.claims.bases.now z.claims.claims.now (operation_numbered z.sheet) after z.operation-items z.initial.dense z.initial.sparse z.initial.numbers z.initial.inside z.dense z.sparse z.numbers z.inside z.operation-index

abbrev pub invariant-visit_region-loop-block : goal.invariant-visit_region-loop-block
invariant-visit_region-loop-block z =
    Loop z.x z.claims.bases.now z.claims.claims.now (block_numbered z.sheet) same z.block-items z.initial.dense z.initial.sparse z.initial.numbers z.initial.at z.dense z.sparse z.numbers z.at z.block-index

abbrev pub invariant-visit_regions-loop-region : goal.invariant-visit_regions-loop-region
invariant-visit_regions-loop-region z =
    Loop z.x z.claims.bases.now z.claims.claims.now (region_numbered z.sheet) same z.regions z.initial.dense z.initial.sparse z.initial.numbers z.initial.at z.dense z.sparse z.numbers z.at z.region-index
