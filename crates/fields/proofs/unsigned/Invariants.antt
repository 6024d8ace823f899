-- `unsigned` meets its contract: the bytes not yet read make of the value so far what the whole field is.
use Prim.Native.Nat.{◌≤◌, ◌/◌}
use mathlib.Core.Path.{◌≡◌}
use lib.ListN.{drop}
use Rattle.fields.specs.Number.{unsigned_of}
use Rattle.fields.proofs.Digits.{read_on}
use Rattle.fields.proofs.unsigned.Given as goal

abbrev pub invariant-loop-b : goal.invariant-loop-b
invariant-loop-b z =
    (z.tenth ≡ z.max / 10) × (z.x ≤ z.max) × (read_on z.max z.x (drop z.b-index z.s) ≡ unsigned_of z.max z.s)
