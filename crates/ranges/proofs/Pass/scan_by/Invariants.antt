-- `scan_by`: entry by entry, with the list entries so far, whatever the closures test and count. Assumes nothing.
use Prim.Native.Nat.{ℕ, ◌-◌, ◌^◌, ◌<◌, min}
use mathlib.Core.Path.{◌≡◌}
use mathlib.Core.Bool.{Bool}
use Rattle.ranges.proofs.Scan.{Scan}
use Rattle.ranges.proofs.Pass.scan_by.Given as goal

abbrev pub invariant-loop-entry : goal.invariant-loop-entry
invariant-loop-entry g z =
    goal.F-IsAlwaysCallable g z.good
    × goal.L-IsAlwaysCallable g z.listed
    × ((p : ℕ → Bool) (f : ℕ → ℕ)
    → ((i : ℕ) (r : Bool) → i < z.self.count → goal.F-post g z.good i r → r ≡ p i)
    → ((i r : ℕ) → i < z.self.count → goal.L-post g z.listed i r → r ≡ min (f i) (2 ^ 64 - 1))
    → Scan z.self p f z.before z.used z.entry)
