-- `add_results`: the values of an operation's declared results, one by one. Assumes nothing.
use Prim.Native.Nat.{ℕ}
use mathlib.Core.Path.{◌≡◌}
use mathlib.Core.List.{List}
use lib.ListN.{length}
use Rattle.tables.specs.Tables.{result_types}
use Rattle.tables.specs.Value.{value_of}
use Rattle.nesting.specs.Live.{to_list}
use Rattle.scope.specs.Stack.{Holds}
use Rattle.dominance.specs.Walk.{Tells}
use Rattle.dominance.proofs.Operation.{Taking}
use Rattle.dominance.proofs.Walks.{beside}
use Rattle.dominance.proofs.add_results.Given as goal

abbrev pub invariant-loop-k : goal.invariant-loop-k
invariant-loop-k g z =
    (z.s.depth ≡ z.initial.s.depth)
    × ((t v a : List ℕ) → Tells (beside z.x t v a) z.claims.bases.now z.claims.claims.now → (live : List ℕ) → Holds z.x.counts.values z.initial.stack z.initial.s.next live
    → Taking z.x.counts.values (λ j. to_list (value_of (beside z.x t v a) z.id j)) (length (result_types z.x z.id)) live z.stack z.s.next z.k)
