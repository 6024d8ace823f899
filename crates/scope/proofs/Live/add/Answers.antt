-- `Live::add`: the stack is as many values high as it says. Assumes nothing.
use mathlib.Core.Path.{refl}
use Prim.Native.Nat.{ℕ}
use Rattle.scope.specs.Stack.{see}
use Rattle.scope.proofs.Laws.{holds_by}
use Rattle.scope.proofs.Live.add.Goals as goal

pub returns-clause-by_index : goal.returns-clause-by_index
returns-clause-by_index g c = λ nv live h. holds_by (λ (m : ℕ). see m live c.args.v) refl h (c.add.ensures.by_index live)
