-- `after_checks`: the walk over a new stack, which has a place for each value. Assumes nothing.
use Prim.Native.Nat.{◌≤◌}
use native.Mathlib.Omega.{arith}
use mathlib.Core.Path.{ap, ◌∙◌}
use Rattle.tables.specs.Sizes.{max_values}
use Rattle.tables.specs.declared.Counts.{Counts}
use Rattle.table_checks.proofs.Handed.{claims_tell}
use Rattle.scope.proofs.Laws.{holds_new}
use Rattle.dominance.proofs.Passed.{values_fit, walk_is}
use Rattle.dominance.proofs.Walks.{beside}
use Rattle.dominance.proofs.after_checks.Goals as goal

pub returns-then-values-le-FEW_VALUES : goal.returns-then-values-le-FEW_VALUES
returns-then-values-le-FEW_VALUES c = λ t v a passed filled.
    let x = beside c.args.x.now t v a in
    let same = ap (λ (n : Counts). n.values) c.counts-values.ensures in
    c.visit_functions.ensures t v a (claims_tell x passed _ _ filled) (holds_new c.new-stack.ensures same c.if-values-le-FEW_VALUES.true)
    ∙ walk_is x passed

pub returns-else-values-le-FEW_VALUES : goal.returns-else-values-le-FEW_VALUES
returns-else-values-le-FEW_VALUES c = λ t v a passed filled.
    let x = beside c.args.x.now t v a in
    let same = ap (λ (n : Counts). n.values) c.counts-values.ensures in
    let room : c.counts-values.result.values ≤ max_values = omega (arith, same, values_fit x passed) in
    c.visit_functions-else-values-le-FEW_VALUES.ensures t v a (claims_tell x passed _ _ filled) (holds_new c.new-stack-else-values-le-FEW_VALUES.ensures same room)
    ∙ walk_is x passed
