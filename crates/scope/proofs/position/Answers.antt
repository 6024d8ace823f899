-- `position`: where a live value stands on the stack. Assumes nothing.
use native.Mathlib.Omega.{arith}
use Rattle.scope.proofs.Stack.{position_past, position_other, position_here}
use Rattle.scope.proofs.position.Goals as goal
use Rattle.scope.proofs.position.Goals.{then-next-k-via-then-next-k, then-next-k-via-else-next-k+then-at-v}

pub returns-then-next-k : goal.returns-then-next-k
returns-then-next-k c = λ nv live s.
    elim c.then-next-k.branch [
      | then-next-k-via-then-next-k w ↦ position_past s c.args.v _ c.at-k.ensures (omega (arith, w.if-next-k.true))
      | then-next-k-via-else-next-k+then-at-v w ↦ position_other s c.args.v _ c.at-k.ensures _ w.at.ensures w.if-at-v.true
    ]

pub returns : goal.returns
returns c = λ nv live s. position_here s c.args.v _ c.at-k.ensures _ c.at.ensures (omega (arith, c.if-next-k.false)) c.if-at-v.false
