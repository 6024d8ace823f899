-- `Live::push_each`: a place for each index. Assumes nothing.
use Rattle.read_back.proofs.Stack.{pushing_step}
use Rattle.read_back.proofs.Live.push_each.Goals as goal

pub loop-k-preserved : goal.loop-k-preserved
loop-k-preserved g c = (
  c.loop-k.invariant.0,
  λ make h. pushing_step make c.args.count c.args.self.now c.loop-k.self c.loop-k.k (c.loop-k.invariant.1 make h) c.loop-k-test.true
      c.place.result (h c.loop-k.k c.place.result c.loop-k-test.true c.place.ensures) c.push.new.self c.push.ensures,
)
