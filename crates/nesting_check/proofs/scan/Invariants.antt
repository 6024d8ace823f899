-- `scan`: entry by entry, with the list entries so far, whatever the closures test and count. Assumes nothing.
use Prim.Native.Nat.{ℕ, ◌-◌, ◌^◌, ◌<◌, min}
use mathlib.Core.Path.{◌≡◌}
use mathlib.Core.Bool.{Bool}
use Rattle.ranges.proofs.Scan.{Scan}
use Rattle.nesting_check.proofs.scan.Given as goal

abbrev pub invariant-loop-entry : goal.invariant-loop-entry
invariant-loop-entry g z =
    goal.F-IsAlwaysCallable g z.good
    × goal.L-IsAlwaysCallable g z.listed
    × ((p : ℕ → Bool) (f : ℕ → ℕ)
    → ((i : ℕ) (r : Bool) → i < z.table.count → goal.F-post g z.good i r → r ≡ p i)
    → ((i r : ℕ) → i < z.table.count → goal.L-post g z.listed i r → r ≡ min (f i) (2 ^ 64 - 1))
    → Scan z.table p f z.before z.used z.entry)
