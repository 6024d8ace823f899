-- `store_region` meets its contract: each way through it is the definition's.
use Rattle.stores.proofs.Stores.{not_stored}
use Rattle.stores.proofs.Listed.{region_bad, region_full, region_crowded, region_taken}
use Rattle.stores.proofs.store_region.Goals as goal

pub returns-in_err-blocks : goal.returns-in_err-blocks
returns-in_err-blocks c =
    region_bad _ _ _ _ _ _ _ c.region_line.ensures _ c.in_err-blocks.was _ (not_stored c.from_residual.ensures.1)

pub returns-then-n-ge-MAX_REGIONS : goal.returns-then-n-ge-MAX_REGIONS
returns-then-n-ge-MAX_REGIONS c =
    region_full _ _ _ _ _ _ _ c.region_line.ensures _ c.in_ok-blocks.was c.if-n-ge-MAX_REGIONS.true

pub returns-then-not-has_room : goal.returns-then-not-has_room
returns-then-not-has_room c =
    region_crowded _ _ _ _ _ _ _ c.region_line.ensures _ c.in_ok-blocks.was _ c.has_room.ensures c.if-not-has_room.true

pub returns : goal.returns
returns c =
    region_taken _ _ _ _ _ _ _ c.region_line.ensures _ c.in_ok-blocks.was _ c.has_room.ensures c.if-not-has_room.false c.if-n-ge-MAX_REGIONS.false
    _ _ c.narrow.ensures c.narrow-2.ensures _ c.put_row.ensures
