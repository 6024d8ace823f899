-- `visit_functions`: the functions in order, each on an empty stack and behind the numbers of the last. Assumes nothing.
use Prim.Native.Nat.{ℕ, ◌≤◌}
use mathlib.Core.Path.{◌≡◌}
use mathlib.Core.List.{List}
use lib.ListN.{length}
use Rattle.tables.specs.Tables.{lent, functions}
use Rattle.numbering.specs.Alone.{size}
use Rattle.numbering_walk.specs.Walk.{Tells, function_numbered}
use Rattle.numbering.specs.Fill.{Room}
use Rattle.numbering.proofs.Fill.{Filling}
use Rattle.numbering.proofs.visit_functions.Given as goal

abbrev pub invariant-loop-i : goal.invariant-loop-i
invariant-loop-i z =
    (z.functions ≡ functions z.x)
    × ((t v a : List ℕ) → let y = lent t v z.x.o a z.x.b z.x.r z.x.f z.x.l z.x.counts in Tells y z.claims.bases.now z.claims.claims.now
    → Room y z.initial.dense z.initial.sparse z.initial.numbers z.initial.lengths
    → (z.x.counts.values ≤ length z.dense) × (z.x.counts.values ≤ length z.sparse)
    × Filling (function_numbered z.sheet y) (size y) (functions y) z.initial.numbers z.initial.lengths z.numbers z.lengths z.done z.i)
