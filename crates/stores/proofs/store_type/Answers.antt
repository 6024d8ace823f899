-- `store_type` meets its contract: each way through it is the definition's.
use Rattle.stores.proofs.Stores.{not_stored, type_bad, type_full, type_deep, type_taken}
use Rattle.stores.proofs.store_type.Goals as goal

pub returns-in_err-w : goal.returns-in_err-w
returns-in_err-w c =
    type_bad _ _ _ _ _ c.type_line.ensures _ c.in_err-w.was _ (not_stored c.from_residual.ensures.1)

pub returns-then-n-ge-MAX_TYPES : goal.returns-then-n-ge-MAX_TYPES
returns-then-n-ge-MAX_TYPES c =
    type_full _ _ _ _ _ c.type_line.ensures _ c.in_ok-w.was c.if-n-ge-MAX_TYPES.true

pub returns-then-w-gt-MAX_RANK : goal.returns-then-w-gt-MAX_RANK
returns-then-w-gt-MAX_RANK c =
    type_deep _ _ _ _ _ c.type_line.ensures _ c.in_ok-w.was c.if-w-gt-MAX_RANK.true

pub returns : goal.returns
returns c =
    type_taken _ _ _ _ _ c.type_line.ensures _ c.in_ok-w.was c.if-n-ge-MAX_TYPES.false c.if-w-gt-MAX_RANK.false _ _ c.put_row.ensures c.put_row-2.ensures
