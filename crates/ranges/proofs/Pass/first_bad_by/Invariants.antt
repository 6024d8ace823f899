-- `first_bad_by`: entry by entry, up to the first that is bad, whatever the closure tests. Assumes nothing.
use Prim.Native.Nat.{ℕ, ◌<◌}
use mathlib.Core.Path.{◌≡◌}
use mathlib.Core.Bool.{Bool}
use Rattle.ranges.proofs.Find.{Passed}
use Rattle.ranges.proofs.Scan.{bad}
use Rattle.ranges.proofs.Pass.first_bad_by.Given as goal

abbrev pub invariant-loop-entry : goal.invariant-loop-entry
invariant-loop-entry g z =
    goal.F-IsAlwaysCallable g z.good
    × ((p : ℕ → Bool) → ((i : ℕ) (r : Bool) → i < z.self.count → goal.F-post g z.good i r → r ≡ p i) → Passed (bad z.self p) z.self.count z.entry)
