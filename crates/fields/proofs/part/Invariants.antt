-- `part` meets its contract: the part that is asked for is the one so many parts after the cursor.
use Prim.Native.Nat.{◌-◌, ◌≤◌}
use mathlib.Core.Path.{◌≡◌}
use lib.ListN.{length, drop}
use Rattle.fields.specs.Cut.{split, nth}
use Rattle.fields.proofs.part.Given as goal

abbrev pub invariant-loop-i : goal.invariant-loop-i
invariant-loop-i z =
    (z.p ≤ length z.s) × (nth (z.k - z.i) (split z.byte (drop z.p z.s)) ≡ nth z.k (split z.byte z.s))
