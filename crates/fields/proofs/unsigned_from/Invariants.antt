-- `unsigned_from` meets its contract: the part from the cursor on makes of the value so far what the whole part is.
use Prim.Native.Nat.{◌≤◌}
use mathlib.Core.Path.{◌≡◌}
use lib.ListN.{length}
use Rattle.fields.specs.Taken.{unsigned_from}
use Rattle.fields.proofs.Takes.{take_on}
use Rattle.fields.proofs.unsigned_from.Given as goal

abbrev pub invariant-loop-i : goal.invariant-loop-i
invariant-loop-i z =
    (z.n ≡ length z.s) × (z.i ≤ z.n) × (z.x ≤ z.max) × (take_on z.byte z.max z.x z.i z.s ≡ unsigned_from z.byte z.max z.start z.s)
