-- `add_all`: value after value. The invariant: what is live now is what the values so far make live.
use Prim.Native.Nat.{ℕ}
use mathlib.Core.Path.{◌≡◌}
use mathlib.Core.List.{List}
use lib.ListN.{take}
use Rattle.scope.specs.Stack.{see_all, Shows}
use Rattle.scope.proofs.Scope.add_all.Given as goal

abbrev pub invariant-loop-v : goal.invariant-loop-v
invariant-loop-v l =
    (l.scope.depth ≡ l.initial.scope.depth)
    × ((live : List ℕ) → Shows l.nv l.initial.dense l.initial.sparse l.initial.scope.next live → Shows l.nv l.dense l.sparse l.scope.next (see_all l.nv live (take l.v-index l.values)))
