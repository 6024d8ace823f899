-- `read_all`: the walks with nothing live at first, and the count at the end. Assumes nothing.
use Rattle.read_back.proofs.Visits.{going_next, going_end, entries_went}
use Rattle.read_back.proofs.Turns.{count_wrong, count_right}
use Rattle.read_back.proofs.read_all.Goals as goal

pub loop-id-preserved : goal.loop-id-preserved
loop-id-preserved c =
    going_next c.loop-id.invariant c.from.result c.from.ensures c.loop-id-test.true (c.read_function.ensures c.loop-id.invariant.lives)

pub returns-then-reading-numbers : goal.returns-then-reading-numbers
returns-then-reading-numbers c =
    let x = c.args.x.now in
    count_wrong x c.args.numbers.now c.args.places.now _ c.loop-id.reading
    (entries_went c.args.numbers.now x _ c.functions-id-items.ensures (going_end c.loop-id.invariant c.loop-id-test.false)) c.if-reading-numbers.true

pub returns : goal.returns
returns c =
    let x = c.args.x.now in
    count_right x c.args.numbers.now c.args.places.now _ c.loop-id.reading
    (entries_went c.args.numbers.now x _ c.functions-id-items.ensures (going_end c.loop-id.invariant c.loop-id-test.false)) c.if-reading-numbers.false
