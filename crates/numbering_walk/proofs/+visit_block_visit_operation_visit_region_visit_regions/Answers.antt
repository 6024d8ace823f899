-- The walk: what each visit numbers, what it writes, and what its stack shows after it. Assumes nothing.
use Prim.Native.Nat.{ℕ}
use mathlib.Core.Path.{sym, ap, ◌∙◌, subst}
use Rattle.std.proofs.lemmas.Result.{err_from_is_err_and}
use Rattle.tables.specs.Tables.{Tables, lent}
use Rattle.tables.specs.declared.Counts.{Counts}
use Rattle.scope.specs.Stack.{see_all, Shows}
use Rattle.scope.specs.declared.Scope.{Scope}
use Rattle.scope.proofs.Laws.{begins_same, begins_on, begins_all}
use Rattle.numbering_walk.proofs.Walks.{going_live, going_end, going_stop, going_more, stopped, unwritten, stands_is, grown_same, begins_after, regions_are, block_is, region_is, region_none, operation_stops, operation_goes, back_to, by_count}
use Rattle.numbering_walk.proofs.+visit_block_visit_operation_visit_region_visit_regions.Goals as goal

-- ---- a block

pub visit_block-returns-in_err-inside-clause-went : goal.visit_block-returns-in_err-inside-clause-went
visit_block-returns-in_err-inside-clause-went m c = λ t v a f tells live h.
    let y : Tables = lent t v c.args.x.now.o a c.args.x.now.b c.args.x.now.r f c.args.x.now.l c.args.x.now.counts in
    let at = c.loop-operation.invariant.going t v a f tells _ (by_count (λ (m : ℕ). see_all m live c.arguments.result.now) (ap (λ (n : Counts). n.values) c.counts.ensures) (c.add_all.ensures.by_index live) h) in
    let p = err_from_is_err_and c.from_residual.result c.from_residual.ensures.1 in
    rw (p.1, p.2)
    (stopped
    (going_stop at c.loop-operation-test.true c.loop-operation.invariant.depth (c.visit_operation.ensures.went t v a f tells at.now_live at.stands) c.in_err-inside.was
    ∙ block_is c.args.sheet.now y c.args.from.scope.depth live c.args.id c.add_all.ensures.depth_value c.arguments.ensures c.operations-operation-items.ensures))

pub visit_block-loop-operation-preserved : goal.visit_block-loop-operation-preserved
visit_block-loop-operation-preserved m c = record {
  depth = c.in_ok-inside.ensures.level ∙ c.loop-operation.invariant.depth;
  going = λ t v a f tells live h.
      let at = c.loop-operation.invariant.going t v a f tells live h in
      going_more at c.loop-operation-test.true c.loop-operation.invariant.depth (c.visit_operation.ensures.went t v a f tells at.now_live at.stands) c.in_ok-inside.was;
}

pub visit_block-returns-clause-went : goal.visit_block-returns-clause-went
visit_block-returns-clause-went m c = λ t v a f tells live h.
    let y : Tables = lent t v c.args.x.now.o a c.args.x.now.b c.args.x.now.r f c.args.x.now.l c.args.x.now.counts in
    let args = c.arguments.result.now in
    let at = c.loop-operation.invariant.going t v a f tells _ (by_count (λ (m : ℕ). see_all m live c.arguments.result.now) (ap (λ (n : Counts). n.values) c.counts.ensures) (c.add_all.ensures.by_index live) h) in
    going_end at c.loop-operation-test.false
    (block_is c.args.sheet.now y c.args.from.scope.depth live c.args.id c.add_all.ensures.depth_value c.arguments.ensures c.operations-operation-items.ensures)
    (back_to c.roll_back.ensures (going_live at c.loop-operation-test.false)
    (begins_on (begins_all y.counts.values live args) (begins_after y (see_all y.counts.values live args) c.operations-operation-items.result.now)) h)

-- ---- an operation

pub visit_operation-returns-in_err-inner-clause-went : goal.visit_operation-returns-in_err-inner-clause-went
visit_operation-returns-in_err-inner-clause-went m c = λ t v a f tells live h.
    let y : Tables = lent t v c.args.x.now.o a c.args.x.now.b c.args.x.now.r f c.args.x.now.l c.args.x.now.counts in
    let p = err_from_is_err_and c.from_residual.result c.from_residual.ensures.1 in
    rw (p.1, p.2)
    (stopped (operation_stops c.args.sheet.now y c.args.from.scope.depth live c.args.id (c.open_operation.ensures.went t v a c.args.x.now.b c.args.x.now.r f tells live h) c.in_err-inner.was))

pub visit_operation-returns-clause-went : goal.visit_operation-returns-clause-went
visit_operation-returns-clause-went m c = λ t v a f tells live h.
    let y : Tables = lent t v c.args.x.now.o a c.args.x.now.b c.args.x.now.r f c.args.x.now.l c.args.x.now.counts in
    let opened = c.open_operation.ensures.went t v a c.args.x.now.b c.args.x.now.r f tells live h in
    operation_goes c.args.sheet.now y c.args.from.scope.depth live c.args.id opened c.in_ok-inner.was c.in_ok-inner.ensures.level c.regions.ensures
    (c.visit_regions.ensures.went t v a f tells _ (stands_is opened c.in_ok-inner.was))

-- ---- a region

pub visit_region-returns-then-from-eq0-clause-went : goal.visit_region-returns-then-from-eq0-clause-went
visit_region-returns-then-from-eq0-clause-went m c = λ t v a f tells live h.
    let y : Tables = lent t v c.args.x.now.o a c.args.x.now.b c.args.x.now.r f c.args.x.now.l c.args.x.now.counts in
    unwritten (region_none c.args.sheet.now y c.args.from.scope.depth live c.args.id c.if-from-eq0.true) h

pub visit_region-returns-in_err-at-clause-went : goal.visit_region-returns-in_err-at-clause-went
visit_region-returns-in_err-at-clause-went m c = λ t v a f tells live h.
    let y : Tables = lent t v c.args.x.now.o a c.args.x.now.b c.args.x.now.r f c.args.x.now.l c.args.x.now.counts in
    let deep = ap (λ (z : Scope). z.depth) c.enter.ensures in
    let at = c.loop-block.invariant.going t v a f tells live (subst (λ (z : Scope). Shows y.counts.values c.args.dense.now c.args.sparse.now z.next live) (sym c.enter.ensures) h) in
    let p = err_from_is_err_and c.from_residual.result c.from_residual.ensures.1 in
    rw (p.1, p.2)
    (stopped
    (going_stop at c.loop-block-test.true c.loop-block.invariant.depth (c.visit_block.ensures.went t v a f tells at.now_live at.stands) c.in_err-at.was
    ∙ region_is c.args.sheet.now y c.args.from.scope.depth live c.args.id c.if-from-eq0.false deep c.blocks-block-items.ensures))

pub visit_region-loop-block-preserved : goal.visit_region-loop-block-preserved
visit_region-loop-block-preserved m c = record {
  depth = c.in_ok-at.ensures.level ∙ c.loop-block.invariant.depth;
  going = λ t v a f tells live h.
      let at = c.loop-block.invariant.going t v a f tells live h in
      going_more at c.loop-block-test.true c.loop-block.invariant.depth (c.visit_block.ensures.went t v a f tells at.now_live at.stands) c.in_ok-at.was;
}

pub visit_region-returns-clause-went : goal.visit_region-returns-clause-went
visit_region-returns-clause-went m c = λ t v a f tells live h.
    let y : Tables = lent t v c.args.x.now.o a c.args.x.now.b c.args.x.now.r f c.args.x.now.l c.args.x.now.counts in
    let deep = ap (λ (z : Scope). z.depth) c.enter.ensures in
    let at = c.loop-block.invariant.going t v a f tells live (subst (λ (z : Scope). Shows y.counts.values c.args.dense.now c.args.sparse.now z.next live) (sym c.enter.ensures) h) in
    let shown = subst (Shows y.counts.values c.loop-block.dense c.loop-block.sparse c.loop-block.at.scope.next) (grown_same y live c.blocks-block-items.result.now) (going_live at c.loop-block-test.false) in
    going_end at c.loop-block-test.false
    (region_is c.args.sheet.now y c.args.from.scope.depth live c.args.id c.if-from-eq0.false deep c.blocks-block-items.ensures)
    (back_to c.roll_back.ensures shown (begins_same live) h)

-- ---- regions

pub visit_regions-returns-in_err-at-clause-went : goal.visit_regions-returns-in_err-at-clause-went
visit_regions-returns-in_err-at-clause-went m c = λ t v a f tells live h.
    let y : Tables = lent t v c.args.x.now.o a c.args.x.now.b c.args.x.now.r f c.args.x.now.l c.args.x.now.counts in
    let at = c.loop-region.invariant.going t v a f tells live h in
    let p = err_from_is_err_and c.from_residual.result c.from_residual.ensures.1 in
    rw (p.1, p.2)
    (stopped
    (going_stop at c.loop-region-test.true c.loop-region.invariant.depth (c.visit_region.ensures.went t v a f tells at.now_live at.stands) c.in_err-at.was
    ∙ regions_are c.args.sheet.now y c.args.from.scope.depth live c.args.regions.now))

pub visit_regions-loop-region-preserved : goal.visit_regions-loop-region-preserved
visit_regions-loop-region-preserved m c = record {
  depth = c.in_ok-at.ensures.level ∙ c.loop-region.invariant.depth;
  going = λ t v a f tells live h.
      let at = c.loop-region.invariant.going t v a f tells live h in
      going_more at c.loop-region-test.true c.loop-region.invariant.depth (c.visit_region.ensures.went t v a f tells at.now_live at.stands) c.in_ok-at.was;
}

pub visit_regions-returns-clause-went : goal.visit_regions-returns-clause-went
visit_regions-returns-clause-went m c = λ t v a f tells live h.
    let y : Tables = lent t v c.args.x.now.o a c.args.x.now.b c.args.x.now.r f c.args.x.now.l c.args.x.now.counts in
    let at = c.loop-region.invariant.going t v a f tells live h in
    going_end at c.loop-region-test.false (regions_are c.args.sheet.now y c.args.from.scope.depth live c.args.regions.now)
    (subst (Shows y.counts.values c.loop-region.dense c.loop-region.sparse c.loop-region.at.scope.next) (grown_same y live c.args.regions.now) (going_live at c.loop-region-test.false))
