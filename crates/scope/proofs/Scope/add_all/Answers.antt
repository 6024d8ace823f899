-- `add_all`: value after value. Assumes nothing.
use mathlib.Core.Path.{◌∙◌}
use lib.Seq.{take_all}
use Rattle.scope.proofs.Laws.{see_next}
use Rattle.scope.proofs.Scope.add_all.Goals as goal

pub loop-v-preserved : goal.loop-v-preserved
loop-v-preserved c = (
  c.add-scope.ensures.depth_value ∙ c.loop-v.invariant.0,
  λ live h. rw (see_next c.args.nv live c.args.values.now c.loop-v.v-index c.loop-v-test.true) (c.add-scope.ensures.by_index _ (c.loop-v.invariant.1 live h)),
)

pub returns-clause-by_index : goal.returns-clause-by_index
returns-clause-by_index c = λ live h. rw (take_all c.loop-v.v-index c.args.values.now c.loop-v-test.false) at (c.loop-v.invariant.1 live h)
