-- `Live::push_each`: a place for each index. Assumes nothing.
use Prim.Native.Nat.{ℕ, ◌<◌}
use mathlib.Core.Path.{◌≡◌}
use Rattle.tables.specs.declared.Place.{Place}
use Rattle.read_back.proofs.Stack.{Pushing}
use Rattle.read_back.proofs.Live.push_each.Given as goal

abbrev pub invariant-loop-k : goal.invariant-loop-k
invariant-loop-k g z =
    goal.F-IsAlwaysCallable g z.place
    × ((make : ℕ → Place) → ((k : ℕ) (p : Place) → k < z.count → goal.F-post g z.place k p → p ≡ make k) → Pushing make z.count z.initial.self z.self z.k)
