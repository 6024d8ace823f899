-- `mark_arguments`: one block's arguments more. Assumes nothing.
use Rattle.tables.specs.Tables.{arguments}
use Rattle.listed.proofs.Marks.{lists_step}
use Rattle.values.proofs.mark_arguments.Goals as goal

pub loop-j-preserved : goal.loop-j-preserved
loop-j-preserved c =
    let x = c.args.x.now in
    lists_step (arguments x) x.counts.blocks c.args.marks.now c.loop-j.j c.loop-j.marks c.loop-j.invariant _ _ (rw c.counts-j-end.ensures at c.loop-j-test.true)
    c.arguments.ensures c.mark_list.ensures
