-- `assume` meets its contract: what is left of the attributes answers the same.
use Prim.Native.Nat.{◌-◌}
use mathlib.Core.Path.{◌≡◌}
use Rattle.cells.specs.Lists.{from}
use Rattle.rules_assume.specs.Assume.{attribute_rule, in_turn, assume_arm}
use Rattle.rules_assume.proofs.assume.Given as goal

abbrev pub invariant-loop-k : goal.invariant-loop-k
invariant-loop-k l =
    assume_arm l.sheet l.x l.operation ≡ in_turn (attribute_rule l.x.a l.x.l l.sheet l.x.counts l.value l.view) (from l.k (l.k-end - l.k))
