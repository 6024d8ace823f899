-- `add`: one value more on the stack. Assumes nothing.
use mathlib.Core.Path.{sym, ◌∙◌}
use Rattle.scope.proofs.Stack.{see_out, see_full, see_again, see_new}
use Rattle.scope.proofs.Scope.add.Goals as goal
use Rattle.scope.proofs.Scope.add.Goals.{then-nv-v-via-then-nv-v, then-nv-v-via-else-nv-v+then-nv-next, then-nv-v-via-else-nv-v+else-nv-next+then-is_live}

pub returns-then-nv-v-clause-by_index : goal.returns-then-nv-v-clause-by_index
returns-then-nv-v-clause-by_index c = λ live s.
    elim c.then-nv-v.branch [
      | then-nv-v-via-then-nv-v w ↦ see_out s c.args.v w.if-nv-v.true
      | then-nv-v-via-else-nv-v+then-nv-next w ↦ see_full s c.args.v w.if-nv-v.false w.if-nv-next.true
      | then-nv-v-via-else-nv-v+else-nv-next+then-is_live w ↦
          see_again s c.args.v w.if-nv-v.false (sym (w.is_live.ensures c.args.nv live s) ∙ w.if-is_live.true)
    ]

pub returns-clause-by_index : goal.returns-clause-by_index
returns-clause-by_index c = λ live s.
    rw (c.put.ensures, c.put-2.ensures)
    (see_new s c.args.v c.if-nv-v.false c.if-nv-next.false (sym (c.is_live.ensures c.args.nv live s) ∙ c.if-is_live.false))
