-- The walk: what each visit answers, and what its stack shows after it. Assumes nothing.
use mathlib.Core.Path.{sym, ap, ◌∙◌, subst}
use Rattle.std.proofs.lemmas.Result.{err_from_is_err_and}
use Rattle.scope.specs.Stack.{see_all, Holds}
use Rattle.scope.specs.declared.Scope.{Scope}
use Rattle.scope.proofs.Laws.{begins_same, begins_on, begins_all}
use Rattle.dominance.proofs.Walks.{beside, going_said, going_live, going_stop, going_more, stopped, stands_is, grown_same, begins_after, regions_are, block_is, region_is, region_none, operation_stops, operation_goes, back_to}
use Rattle.dominance.proofs.+visit_block_visit_operation_visit_region_visit_regions.Goals as goal

-- ---- a block

pub visit_block-returns-in_err-inside-clause-went : goal.visit_block-returns-in_err-inside-clause-went
visit_block-returns-in_err-inside-clause-went g m c = λ t v a tells live h.
    let at = c.loop-operation.invariant.going t v a tells _ (c.add_all-inside.ensures.by_index _ live h) in
    let p = err_from_is_err_and c.from_residual.result c.from_residual.ensures.1 in
    rw (p.1, p.2)
    (stopped
    (going_stop at c.loop-operation-test.true c.loop-operation.invariant.depth (c.visit_operation.ensures.went t v a tells at.now_live at.stands) c.in_err-inside.was
    ∙ block_is (beside c.args.x.now t v a) c.args.scope.depth live c.args.id c.add_all-inside.ensures.depth_value c.arguments.ensures c.operations-operation-items.ensures))

pub visit_block-loop-operation-preserved : goal.visit_block-loop-operation-preserved
visit_block-loop-operation-preserved g m c = record {
  depth = c.in_ok-inside.ensures.level ∙ c.loop-operation.invariant.depth;
  going = λ t v a tells live h.
      let at = c.loop-operation.invariant.going t v a tells live h in
      going_more at c.loop-operation-test.true c.loop-operation.invariant.depth (c.visit_operation.ensures.went t v a tells at.now_live at.stands) c.in_ok-inside.was;
}

pub visit_block-returns-clause-went : goal.visit_block-returns-clause-went
visit_block-returns-clause-went g m c = λ t v a tells live h.
    let x = beside c.args.x.now t v a in
    let args = c.arguments.result.now in
    let at = c.loop-operation.invariant.going t v a tells _ (c.add_all-inside.ensures.by_index _ live h) in
    record {
      answer =
          going_said at c.loop-operation-test.false
          ∙ block_is x c.args.scope.depth live c.args.id c.add_all-inside.ensures.depth_value c.arguments.ensures c.operations-operation-items.ensures;
      stands =
          back_to c.roll_back.ensures (going_live at c.loop-operation-test.false)
          (begins_on (begins_all x.counts.values live args) (begins_after x (see_all x.counts.values live args) c.operations-operation-items.result.now)) h;
    }

-- ---- an operation

pub visit_operation-returns-in_err-inner-clause-went : goal.visit_operation-returns-in_err-inner-clause-went
visit_operation-returns-in_err-inner-clause-went g m c = λ t v a tells live h.
    let p = err_from_is_err_and c.from_residual.result c.from_residual.ensures.1 in
    rw (p.1, p.2) (stopped (operation_stops (beside c.args.x.now t v a) c.args.scope.depth live c.args.id (c.open_operation.ensures.went t v a tells live h) c.in_err-inner.was))

pub visit_operation-returns-clause-went : goal.visit_operation-returns-clause-went
visit_operation-returns-clause-went g m c = λ t v a tells live h.
    let opened = c.open_operation.ensures.went t v a tells live h in
    let went = c.visit_regions.ensures.went t v a tells _ (stands_is opened c.in_ok-inner.was) in
    record {
      answer = went.answer ∙ operation_goes (beside c.args.x.now t v a) c.args.scope.depth live c.args.id opened c.in_ok-inner.was c.in_ok-inner.ensures.level c.regions.ensures;
      stands = went.stands;
    }

-- ---- a region

pub visit_region-returns-then-scope-eq0-clause-went : goal.visit_region-returns-then-scope-eq0-clause-went
visit_region-returns-then-scope-eq0-clause-went g m c = λ t v a tells live h.
    record { answer = region_none (beside c.args.x.now t v a) c.args.scope.depth live c.args.id c.if-scope-eq0.true; stands = h }

pub visit_region-returns-in_err-s-clause-went : goal.visit_region-returns-in_err-s-clause-went
visit_region-returns-in_err-s-clause-went g m c = λ t v a tells live h.
    let x = beside c.args.x.now t v a in
    let deep = ap (λ (z : Scope). z.depth) c.enter-s.ensures in
    let at = c.loop-block.invariant.going t v a tells live (subst (λ (z : Scope). Holds x.counts.values c.args.stack.now z.next live) (sym c.enter-s.ensures) h) in
    let p = err_from_is_err_and c.from_residual.result c.from_residual.ensures.1 in
    rw (p.1, p.2)
    (stopped
    (going_stop at c.loop-block-test.true c.loop-block.invariant.depth (c.visit_block.ensures.went t v a tells at.now_live at.stands) c.in_err-s.was
    ∙ region_is x c.args.scope.depth live c.args.id c.if-scope-eq0.false deep c.blocks-block-items.ensures))

pub visit_region-loop-block-preserved : goal.visit_region-loop-block-preserved
visit_region-loop-block-preserved g m c = record {
  depth = c.in_ok-s.ensures.level ∙ c.loop-block.invariant.depth;
  going = λ t v a tells live h.
      let at = c.loop-block.invariant.going t v a tells live h in
      going_more at c.loop-block-test.true c.loop-block.invariant.depth (c.visit_block.ensures.went t v a tells at.now_live at.stands) c.in_ok-s.was;
}

pub visit_region-returns-clause-went : goal.visit_region-returns-clause-went
visit_region-returns-clause-went g m c = λ t v a tells live h.
    let x = beside c.args.x.now t v a in
    let deep = ap (λ (z : Scope). z.depth) c.enter-s.ensures in
    let at = c.loop-block.invariant.going t v a tells live (subst (λ (z : Scope). Holds x.counts.values c.args.stack.now z.next live) (sym c.enter-s.ensures) h) in
    let shown = subst (Holds x.counts.values c.loop-block.stack c.loop-block.s.next) (grown_same x live c.blocks-block-items.result.now) (going_live at c.loop-block-test.false) in
    record {
      answer =
          going_said at c.loop-block-test.false
          ∙ region_is x c.args.scope.depth live c.args.id c.if-scope-eq0.false deep c.blocks-block-items.ensures;
      stands = back_to c.roll_back.ensures shown (begins_same live) h;
    }

-- ---- regions

pub visit_regions-returns-in_err-s-clause-went : goal.visit_regions-returns-in_err-s-clause-went
visit_regions-returns-in_err-s-clause-went g m c = λ t v a tells live h.
    let at = c.loop-region.invariant.going t v a tells live h in
    let p = err_from_is_err_and c.from_residual.result c.from_residual.ensures.1 in
    rw (p.1, p.2)
    (stopped
    (going_stop at c.loop-region-test.true c.loop-region.invariant.depth (c.visit_region.ensures.went t v a tells at.now_live at.stands) c.in_err-s.was
    ∙ regions_are (beside c.args.x.now t v a) c.args.scope.depth live c.args.regions.now))

pub visit_regions-loop-region-preserved : goal.visit_regions-loop-region-preserved
visit_regions-loop-region-preserved g m c = record {
  depth = c.in_ok-s.ensures.level ∙ c.loop-region.invariant.depth;
  going = λ t v a tells live h.
      let at = c.loop-region.invariant.going t v a tells live h in
      going_more at c.loop-region-test.true c.loop-region.invariant.depth (c.visit_region.ensures.went t v a tells at.now_live at.stands) c.in_ok-s.was;
}

pub visit_regions-returns-clause-went : goal.visit_regions-returns-clause-went
visit_regions-returns-clause-went g m c = λ t v a tells live h.
    let x = beside c.args.x.now t v a in
    let at = c.loop-region.invariant.going t v a tells live h in
    record {
      answer = going_said at c.loop-region-test.false ∙ regions_are x c.args.scope.depth live c.args.regions.now;
      stands = subst (Holds x.counts.values c.loop-region.stack c.loop-region.s.next) (grown_same x live c.args.regions.now) (going_live at c.loop-region-test.false);
    }
