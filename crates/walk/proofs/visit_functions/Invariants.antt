-- `visit_functions`: the functions in order, each with 32 depths left. Assumes nothing.
use Rattle.tables.specs.Sizes.{max_depth}
use Rattle.walk.specs.Order.{operation_order, region_order}
use Rattle.walk.specs.Depth.{operation_depth, region_depth}
use Rattle.walk.proofs.Visits.{Going}
use Rattle.walk.proofs.visit_functions.Given as goal

abbrev pub invariant-loop-id : goal.invariant-loop-id
invariant-loop-id z =
    Going (operation_depth (region_depth max_depth z.x) z.x) (operation_order (region_order max_depth z.x) z.x) z.id-items
    z.initial.out z.initial.next z.out z.next z.id-index
