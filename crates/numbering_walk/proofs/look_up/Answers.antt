-- `look_up`: the number of each operand, or the first that has none. Assumes nothing.
use mathlib.Core.Path.{sym, ap, ◌∙◌}
use Rattle.scope.specs.Stack.{number_in}
use Rattle.numbering_walk.proofs.Walks.{stopped}
use Rattle.numbering_walk.proofs.Operation.{look_more, look_stop, look_end}
use Rattle.numbering_walk.proofs.look_up.Goals as goal

pub returns-in_default-clause-by_index : goal.returns-in_default-clause-by_index
returns-in_default-clause-by_index c = λ nv live h.
    stopped (look_stop (c.loop-k.invariant nv live h) c.loop-k-test.true (sym (c.position.ensures nv live h) ∙ ap number_in c.in_default.is))

pub loop-k-preserved : goal.loop-k-preserved
loop-k-preserved c = λ nv live h.
    look_more (c.loop-k.invariant nv live h) c.loop-k-test.true (sym (c.position.ensures nv live h) ∙ ap number_in c.in-Some.is) c.push_number-used.ensures

pub returns-clause-by_index : goal.returns-clause-by_index
returns-clause-by_index c = λ nv live h. look_end (c.loop-k.invariant nv live h) c.loop-k-test.false h
