-- The walk: region visits blocks, block visits operations, operation visits regions. Assumes nothing.
use Rattle.std.proofs.Common.{rules}
use mathlib.Core.Path.{refl, ap, ◌∙◌}
use mathlib.Core.List.{map, List}
use Prim.Native.Nat.{ℕ}
use lib.ListN.{take}
use Rattle.cells.specs.Lists.{below}
use Rattle.tables.specs.declared.Place.TheVariants.{Argument}
use Rattle.read_back.proofs.Visits.{going_step, going_end, entered, onward_start, onward_step, block_went, region_none, region_went}
use Rattle.read_back.proofs.Reader.+visit_block_visit_operation_visit_region.Goals as goal

pub visit_block-loop-operation-init : goal.visit_block-loop-operation-init
visit_block-loop-operation-init t c = onward_start _ _ _ _ _ _ _ (map (Argument c.args.id) (below c.arguments_span.result.len))
    (c.push_each.ensures (Argument c.args.id) (λ k p h q. search rules))

pub visit_block-loop-operation-preserved : goal.visit_block-loop-operation-preserved
visit_block-loop-operation-preserved t c =
    onward_step _ _ _ c.loop-operation.invariant c.loop-operation-test.true c.open_operation.ensures c.visit_operation.ensures

pub visit_block-returns : goal.visit_block-returns
visit_block-returns t c =
    let a = c.args in
    block_went _ _ _ c.loop-operation.invariant a.reading.now a.places.now a.id c.loop-operation-test.false c.operations-operation-items.ensures
    (entered a.self.now.x.now a.id a.reading.now.live c.arguments_span.ensures (c.push_each.ensures (Argument a.id) (λ k p h q. search rules)))
    refl _ (c.truncate.ensures ∙ ap (λ (n : ℕ). take n c.loop-operation.reading.live) c.len-before.ensures)

pub visit_operation-loop-region-preserved : goal.visit_operation-loop-region-preserved
visit_operation-loop-region-preserved t c = going_step c.loop-region.invariant c.loop-region-test.true c.visit_region.ensures

pub visit_region-returns-then-depth-eq0 : goal.visit_region-returns-then-depth-eq0
visit_region-returns-then-depth-eq0 t c = region_none _ _ _ _ _ c.if-depth-eq0.true (record { lives = refl; reached = refl })

pub visit_region-loop-block-preserved : goal.visit_region-loop-block-preserved
visit_region-loop-block-preserved t c = going_step c.loop-block.invariant c.loop-block-test.true c.visit_block.ensures

pub visit_region-returns : goal.visit_region-returns
visit_region-returns t c =
    region_went _ _ _ _ _ c.if-depth-eq0.false c.blocks-block-items.ensures (going_end c.loop-block.invariant c.loop-block-test.false)
