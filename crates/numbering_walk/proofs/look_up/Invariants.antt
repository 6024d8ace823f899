-- `look_up`: the number of each operand, or the first that has none. Assumes nothing.
use Prim.Native.Nat.{ℕ}
use mathlib.Core.List.{List}
use Rattle.walk.specs.Written.{filled}
use Rattle.scope.specs.Stack.{Shows}
use Rattle.numbering_walk.proofs.Operation.{Looking}
use Rattle.numbering_walk.proofs.look_up.Given as goal

abbrev pub invariant-loop-k : goal.invariant-loop-k
invariant-loop-k z =
    (nv : ℕ) (live : List ℕ) → Shows nv z.dense z.sparse z.from.scope.next live → Looking live z.operation z.operands (filled z.initial.numbers z.from.done) z.numbers z.used z.k
