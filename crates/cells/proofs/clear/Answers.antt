-- `clear`: one entry more is zero after each turn. Assumes nothing.
use Rattle.cells.proofs.Parts.{clear_step}
use Rattle.cells.proofs.clear.Goals as goal

pub loop-x-preserved : goal.loop-x-preserved
loop-x-preserved g c =
    rw c.zero.ensures (clear_step g.T.Word.zero c.args.s.now c.loop-x.x-index c.loop-x.x-items c.loop-x.invariant c.loop-x-test.true)
