-- `store_function` meets its contract: each way through it is the definition's.
use Rattle.stores.proofs.Stores.{not_stored, function_bad, function_full, function_taken}
use Rattle.stores.proofs.store_function.Goals as goal

pub returns-in_err-operation : goal.returns-in_err-operation
returns-in_err-operation c =
    function_bad _ _ _ _ _ c.function_line.ensures _ c.in_err-operation.was _ (not_stored c.from_residual.ensures.1)

pub returns-then-n-ge-MAX_FUNCTIONS : goal.returns-then-n-ge-MAX_FUNCTIONS
returns-then-n-ge-MAX_FUNCTIONS c =
    function_full _ _ _ _ _ c.function_line.ensures _ c.in_ok-operation.was c.if-n-ge-MAX_FUNCTIONS.true

pub returns : goal.returns
returns c =
    function_taken _ _ _ _ _ c.function_line.ensures _ c.in_ok-operation.was c.if-n-ge-MAX_FUNCTIONS.false _ c.narrow.ensures _ c.put.ensures
