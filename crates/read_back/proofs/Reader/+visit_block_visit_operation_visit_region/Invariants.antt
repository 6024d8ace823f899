-- The walk: region visits blocks, block visits operations, operation visits regions. Assumes nothing.
use Prim.Native.Nat.{◌+◌, ◌*◌, ◌-◌}
use mathlib.Core.Path.{◌≡◌}
use Rattle.read_back.specs.Stage.{staged, region_uses, block_uses}
use Rattle.read_back.proofs.Visits.{Going, Onward}
use Rattle.read_back.proofs.Reader.+visit_block_visit_operation_visit_region.Given as goal

abbrev pub decreases-visit_block : goal.decreases-visit_block
decreases-visit_block z = 3 * z.depth + 2

abbrev pub decreases-visit_operation : goal.decreases-visit_operation
decreases-visit_operation z = 3 * z.depth + 1

abbrev pub decreases-visit_region : goal.decreases-visit_region
decreases-visit_region z = 3 * z.depth

abbrev pub invariant-visit_block-loop-operation : goal.invariant-visit_block-loop-operation
invariant-visit_block-loop-operation z =
    Onward z.self.numbers.now z.self.x.now z.depth z.operation-items z.fn.reading.live z.initial.reading.live (staged z.initial.reading z.initial.places)
    z.reading z.places z.operation-index

abbrev pub invariant-visit_operation-loop-region : goal.invariant-visit_operation-loop-region
invariant-visit_operation-loop-region z =
    Going z.self.numbers.now (region_uses z.self.x.now z.depth) z.region-items z.initial.reading.live (staged z.initial.reading z.initial.places)
    z.reading z.places z.region-index

abbrev pub invariant-visit_region-loop-block : goal.invariant-visit_region-loop-block
invariant-visit_region-loop-block z =
    Going z.self.numbers.now (block_uses z.self.x.now (z.depth - 1)) z.block-items z.initial.reading.live (staged z.initial.reading z.initial.places)
    z.reading z.places z.block-index
