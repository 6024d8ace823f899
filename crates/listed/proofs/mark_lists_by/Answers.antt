-- `mark_lists_by`: one list more, as the closure gave it. Assumes nothing.
use Rattle.listed.proofs.Marks.{lists_step}
use Rattle.listed.proofs.mark_lists_by.Goals as goal

pub loop-i-preserved : goal.loop-i-preserved
loop-i-preserved g c = (
  c.loop-i.invariant.0,
  λ f h.
      lists_step f c.args.count c.args.marks.now c.loop-i.i c.loop-i.marks (c.loop-i.invariant.1 f h) _ _ c.loop-i-test.true
      (h _ _ c.loop-i-test.true c.list.ensures) c.mark_list.ensures,
)
