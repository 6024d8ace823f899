-- `add_results`: the values of an operation's declared results, one by one, up to the first that is missing. Assumes nothing.
use Prim.Native.Nat.{ℕ}
use mathlib.Core.Path.{◌≡◌}
use mathlib.Core.List.{List}
use lib.ListN.{length}
use Rattle.tables.specs.Tables.{lent, result_types}
use Rattle.tables.specs.Value.{value_of}
use Rattle.scope.specs.Stack.{Shows}
use Rattle.numbering_walk.specs.Walk.{Tells}
use Rattle.numbering_walk.proofs.Operation.{Taking}
use Rattle.numbering_walk.proofs.add_results.Given as goal

abbrev pub invariant-loop-k : goal.invariant-loop-k
invariant-loop-k z =
    (z.s.depth ≡ z.initial.s.depth)
    × ((t v a b r f : List ℕ) → let y = lent t v z.x.o a b r f z.x.l z.x.counts in Tells y z.claims.bases.now z.claims.claims.now
    → (live : List ℕ) → Shows z.x.counts.values z.initial.dense z.initial.sparse z.initial.s.next live
    → Taking z.x.counts.values (value_of y z.id) z.id (length (result_types y z.id)) live z.dense z.sparse z.s.next z.k)
