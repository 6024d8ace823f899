-- `list_into` meets its contract: what the items from the cursor on give, after those before it, is what the whole list gives.
use Prim.Native.Nat.{◌+◌, ◌-◌, ◌≤◌}
use mathlib.Core.Path.{◌≡◌}
use lib.ListN.{length}
use Rattle.lines.specs.Into.{number_in}
use Rattle.lines.proofs.Lists.{run, rest_at}
use Rattle.lines.proofs.list_into.Given as goal

abbrev pub invariant-loop-p : goal.invariant-loop-p
invariant-loop-p z =
    (z.p ≤ length z.field + 1) × (z.n ≤ z.p) × (run (number_in z.width) z.start (rest_at z.p z.field) z.n z.l ≡ run (number_in z.width) z.start (rest_at 0 z.field) 0 z.initial.l)

abbrev pub decreases-loop-p : goal.decreases-loop-p
decreases-loop-p z = length z.field + 1 - z.p
