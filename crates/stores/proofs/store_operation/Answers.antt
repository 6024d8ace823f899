-- `store_operation` meets its contract: each way through it is the definition's.
use Rattle.stores.proofs.Stores.{not_stored}
use Rattle.stores.proofs.Listed.{operation_bad, operation_full, operation_crowded, operation_taken}
use Rattle.stores.proofs.store_operation.Goals as goal

pub returns-in_err-w : goal.returns-in_err-w
returns-in_err-w c =
    operation_bad _ _ _ _ _ _ _ _ c.operation_line.ensures _ c.in_err-w.was _ (not_stored c.from_residual.ensures.1)

pub returns-then-n-ge-MAX_OPERATIONS : goal.returns-then-n-ge-MAX_OPERATIONS
returns-then-n-ge-MAX_OPERATIONS c =
    operation_full _ _ _ _ _ _ _ _ c.operation_line.ensures _ c.in_ok-w.was c.if-n-ge-MAX_OPERATIONS.true

pub returns-then-not-has_room : goal.returns-then-not-has_room
returns-then-not-has_room c =
    operation_crowded _ _ _ _ _ _ _ _ c.operation_line.ensures _ c.in_ok-w.was _ c.has_room.ensures c.if-not-has_room.true

pub returns : goal.returns
returns c =
    operation_taken _ _ _ _ _ _ _ _ c.operation_line.ensures _ c.in_ok-w.was _ c.has_room.ensures c.if-not-has_room.false c.if-n-ge-MAX_OPERATIONS.false
    _ _ _ _ _ _ _ _ c.narrow.ensures c.narrow-2.ensures c.narrow-3.ensures c.narrow-4.ensures c.narrow-5.ensures c.narrow-6.ensures c.narrow-7.ensures c.narrow-8.ensures _ _ c.put_row.ensures c.put_row-2.ensures
