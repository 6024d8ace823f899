-- `Reader::read_operands`: one number for each operand. Assumes nothing.
use Rattle.read_back.proofs.Stage.{running_step}
use Rattle.read_back.proofs.Reader.read_operands.Goals as goal

pub loop-k-preserved : goal.loop-k-preserved
loop-k-preserved c = running_step c.loop-k.invariant c.loop-k-test.true c.read_next.ensures
