-- `rules_along` meets its contract: what is left of the order answers the same.
use mathlib.Core.Path.{◌≡◌}
use mathlib.Core.Bool.{cond}
use lib.ListN.{length, drop}
use Rattle.cells.specs.Lists.{below}
use Rattle.tables.specs.Answer.{each}
use Rattle.rules.specs.Operation.{verify_operation, rules}
use Rattle.rules.proofs.rules_along.Given as goal

abbrev pub invariant-loop-k : goal.invariant-loop-k
invariant-loop-k l =
    rules l.version l.sheet l.x (cond l.straight (below (length l.order)) l.order)
    ≡ each (verify_operation l.version l.sheet l.x) (drop l.k (cond l.straight (below (length l.order)) l.order))
