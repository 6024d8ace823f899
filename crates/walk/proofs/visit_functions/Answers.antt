-- `visit_functions`: the functions in order, each with 32 depths left. Assumes nothing.
use Rattle.std.proofs.Common.{rules}
use Rattle.walk.specs.Order.{order_to}
use Rattle.walk.specs.Depth.{too_deep}
use Rattle.walk.proofs.Visits.{going_deep, going_more, going_end}
use Rattle.walk.proofs.visit_functions.Goals as goal

pub returns-in_err-next : goal.returns-in_err-next
unfolding too_deep order_to
returns-in_err-next c =
    rw (← c.functions-id-items.ensures)
    (going_deep c.loop-id.invariant c.loop-id-test.true (rw c.from.ensures at c.visit_operation.ensures) c.in_err-next.was (search rules))

pub loop-id-preserved : goal.loop-id-preserved
loop-id-preserved c =
    going_more c.loop-id.invariant c.loop-id-test.true (rw c.from.ensures at c.visit_operation.ensures) c.in_ok-next.was

pub returns : goal.returns
unfolding too_deep order_to
returns c = rw (← c.functions-id-items.ensures) (going_end c.loop-id.invariant c.loop-id-test.false)
