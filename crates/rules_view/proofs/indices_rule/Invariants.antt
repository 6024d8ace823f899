-- `indices_rule` meets its contract: the indices before the axis are right, so the rest of the axes decides.
use Prim.Native.Nat.{◌+◌, ◌-◌}
use mathlib.Core.Path.{◌≡◌}
use Rattle.cells.specs.Lists.{from}
use Rattle.lookups.specs.Typed.{operand_tile}
use Rattle.rules_view.specs.View.{index_start, indices_from, is_sparse_axis, indices_rule}
use Rattle.rules_view.proofs.indices_rule.Given as goal

abbrev pub invariant-loop-axis : goal.invariant-loop-axis
invariant-loop-axis l =
    indices_rule l.x.t l.x.v l.x.o l.x.l l.sheet l.x.counts l.operation l.opcode l.id l.view
    ≡ indices_from (λ k. operand_tile l.sheet l.x l.operation (index_start l.opcode + k)) l.view (is_sparse_axis l.x.t l.x.counts l.id) (from l.axis (l.axis-end - l.axis)) l.element
