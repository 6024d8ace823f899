-- `find` meets its contract: bytes that were passed are not the one, so the end is the same from the place after them.
use Prim.Native.Nat.{◌-◌, ◌≤◌}
use mathlib.Core.Path.{◌≡◌}
use lib.ListN.{length}
use Rattle.fields.specs.Cut.{end_from}
use Rattle.fields.proofs.find.Given as goal

abbrev pub invariant-loop-i : goal.invariant-loop-i
invariant-loop-i z =
    (z.n ≡ length z.s) × (z.i ≤ z.n) × (end_from z.byte z.i z.s ≡ end_from z.byte z.start z.s)

abbrev pub decreases-loop-i : goal.decreases-loop-i
decreases-loop-i z = z.n - z.i
