-- The walk: region visits blocks, block visits operations, operation visits regions. Each loop judges and writes the ids of one list.
-- Assumes nothing.
use Rattle.std.proofs.Common.{rules, tests, refl}
use Rattle.walk.proofs.Visits.{going_deep, going_more, going_at, going_end, block_visited, operation_visited, leaf_visited, region_visited, region_passed, region_refused}
use Rattle.walk.proofs.+visit_block_visit_operation_visit_region.Goals as goal
use Rattle.walk.proofs.+visit_block_visit_operation_visit_region.Goals.{visit_block-then-regions_span-eq0, visit_block-else-regions_span-eq0+in_ok-next}

pub visit_block-returns-in_err-next : goal.visit_block-returns-in_err-next
visit_block-returns-in_err-next t c =
    block_visited c.args.x.now c.args.depth c.args.id c.operations-operation-items.ensures
    (going_deep c.loop-operation.invariant c.loop-operation-test.true c.visit_operation.ensures c.in_err-next.was (search rules))

pub visit_block-loop-operation-preserved : goal.visit_block-loop-operation-preserved
visit_block-loop-operation-preserved t c =
    let h = c.loop-operation-test.true in
    elim c.if-regions_span-eq0.branch [
      | visit_block-then-regions_span-eq0 w ↦
          going_at w.out-is w.next-is (going_more c.loop-operation.invariant h (leaf_visited c.args.x.now c.args.depth _ w.push_id-next.ensures c.regions_span.ensures w.if-regions_span-eq0.true) refl)
      | visit_block-else-regions_span-eq0+in_ok-next w ↦
          going_at w.out-is w.next-is (going_more c.loop-operation.invariant h w.visit_operation.ensures w.in_ok-next.was)
    ]

pub visit_block-returns : goal.visit_block-returns
visit_block-returns t c =
    block_visited c.args.x.now c.args.depth c.args.id c.operations-operation-items.ensures
    (going_end c.loop-operation.invariant c.loop-operation-test.false)

pub visit_operation-returns-in_err-next : goal.visit_operation-returns-in_err-next
visit_operation-returns-in_err-next t c =
    operation_visited c.args.x.now c.args.depth c.args.id c.push_id-next.ensures c.regions-region-items.ensures
    (going_deep c.loop-region.invariant c.loop-region-test.true c.visit_region.ensures c.in_err-next.was (search rules))

pub visit_operation-loop-region-preserved : goal.visit_operation-loop-region-preserved
visit_operation-loop-region-preserved t c =
    going_more c.loop-region.invariant c.loop-region-test.true c.visit_region.ensures c.in_ok-next.was

pub visit_operation-returns : goal.visit_operation-returns
visit_operation-returns t c =
    operation_visited c.args.x.now c.args.depth c.args.id c.push_id-next.ensures c.regions-region-items.ensures
    (going_end c.loop-region.invariant c.loop-region-test.false)

pub visit_region-returns-then-is_empty : goal.visit_region-returns-then-is_empty
visit_region-returns-then-is_empty t c =
    region_passed c.args.x.now c.args.depth c.args.owner c.args.id c.if-depth-eq0.true c.blocks-blocks.ensures c.args.out.now c.args.used (search (rules, tests))

pub visit_region-returns-then-depth-eq0 : goal.visit_region-returns-then-depth-eq0
visit_region-returns-then-depth-eq0 t c =
    region_refused c.args.x.now c.args.depth c.args.owner c.args.id c.if-depth-eq0.true c.blocks-blocks.ensures (search (rules, tests))

pub visit_region-returns-in_err-next : goal.visit_region-returns-in_err-next
visit_region-returns-in_err-next t c =
    region_visited c.args.x.now c.args.depth c.args.id c.args.owner c.if-depth-eq0.false c.blocks-blocks.ensures
    (going_deep c.loop-block.invariant c.loop-block-test.true c.visit_block.ensures c.in_err-next.was (search rules))

pub visit_region-loop-block-preserved : goal.visit_region-loop-block-preserved
visit_region-loop-block-preserved t c =
    going_more c.loop-block.invariant c.loop-block-test.true c.visit_block.ensures c.in_ok-next.was

pub visit_region-returns : goal.visit_region-returns
visit_region-returns t c =
    region_visited c.args.x.now c.args.depth c.args.id c.args.owner c.if-depth-eq0.false c.blocks-blocks.ensures
    (going_end c.loop-block.invariant c.loop-block-test.false)
