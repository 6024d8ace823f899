-- `judge_operands`: the first operand that is not live. The invariant: what is left is judged as all of them are. Assumes nothing.
use Prim.Native.Nat.{ℕ}
use mathlib.Core.Path.{◌≡◌}
use mathlib.Core.List.{List}
use lib.ListN.{drop}
use Rattle.nesting.specs.Dominance.{judge}
use Rattle.scope.specs.Stack.{Shows}
use Rattle.dominance.proofs.judge_operands.Given as goal

abbrev pub invariant-loop-k : goal.invariant-loop-k
invariant-loop-k g z =
    (nv : ℕ) (live : List ℕ) → Shows nv z.stack.dense z.stack.sparse z.next live → judge live z.operation z.k (drop z.k z.operands) ≡ judge live z.operation 0 z.operands
