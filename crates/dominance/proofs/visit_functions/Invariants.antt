-- `visit_functions`: the functions in order, each on an empty stack. Assumes nothing.
use Prim.Native.Nat.{ℕ}
use mathlib.Core.Path.{◌≡◌}
use mathlib.Core.List.{List, []}
use lib.ListN.{drop}
use Rattle.tables.specs.Tables.{functions}
use Rattle.nesting.specs.Ask.{answers, all}
use Rattle.scope.specs.Stack.{Holds}
use Rattle.dominance.specs.Walk.{Tells, function_judged}
use Rattle.dominance.proofs.Walks.{beside}
use Rattle.dominance.proofs.visit_functions.Given as goal

abbrev pub invariant-loop-id : goal.invariant-loop-id
invariant-loop-id g z =
    (t v a : List ℕ) → let y = beside z.x t v a in
    Tells y z.claims.bases.now z.claims.claims.now → Holds z.x.counts.values z.initial.stack 0 []
    → Holds z.x.counts.values z.stack 0 [] × (all answers (function_judged y) (drop z.id-index (functions z.x)) ≡ all answers (function_judged y) (functions z.x))
