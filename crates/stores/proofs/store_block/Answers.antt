-- `store_block` meets its contract: each way through it is the definition's.
use Rattle.stores.proofs.Stores.{not_stored}
use Rattle.stores.proofs.Listed.{block_bad, block_full, block_crowded, block_taken}
use Rattle.stores.proofs.store_block.Goals as goal

pub returns-in_err-w : goal.returns-in_err-w
returns-in_err-w c =
    block_bad _ _ _ _ _ _ _ c.block_line.ensures _ c.in_err-w.was _ (not_stored c.from_residual.ensures.1)

pub returns-then-n-ge-MAX_BLOCKS : goal.returns-then-n-ge-MAX_BLOCKS
returns-then-n-ge-MAX_BLOCKS c =
    block_full _ _ _ _ _ _ _ c.block_line.ensures _ c.in_ok-w.was c.if-n-ge-MAX_BLOCKS.true

pub returns-then-not-has_room : goal.returns-then-not-has_room
returns-then-not-has_room c =
    block_crowded _ _ _ _ _ _ _ c.block_line.ensures _ c.in_ok-w.was _ c.has_room.ensures c.if-not-has_room.true

pub returns : goal.returns
returns c =
    block_taken _ _ _ _ _ _ _ c.block_line.ensures _ c.in_ok-w.was _ c.has_room.ensures c.if-not-has_room.false c.if-n-ge-MAX_BLOCKS.false
    _ _ _ _ c.narrow.ensures c.narrow-2.ensures c.narrow-3.ensures c.narrow-4.ensures _ c.put_row.ensures
