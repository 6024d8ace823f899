-- `store_attribute` meets its contract: each way through it is the definition's.
use Rattle.stores.proofs.Stores.{not_stored}
use Rattle.stores.proofs.Listed.{attribute_bad, attribute_full, attribute_crowded, attribute_taken}
use Rattle.stores.proofs.store_attribute.Goals as goal

pub returns-in_err-w : goal.returns-in_err-w
returns-in_err-w c =
    attribute_bad _ _ _ _ _ _ _ c.attribute_line.ensures _ c.in_err-w.was _ (not_stored c.from_residual.ensures.1)

pub returns-then-n-ge-MAX_ATTRIBUTES : goal.returns-then-n-ge-MAX_ATTRIBUTES
returns-then-n-ge-MAX_ATTRIBUTES c =
    attribute_full _ _ _ _ _ _ _ c.attribute_line.ensures _ c.in_ok-w.was c.if-n-ge-MAX_ATTRIBUTES.true

pub returns-then-not-has_room : goal.returns-then-not-has_room
returns-then-not-has_room c =
    attribute_crowded _ _ _ _ _ _ _ c.attribute_line.ensures _ c.in_ok-w.was _ c.has_room.ensures c.if-not-has_room.true

pub returns : goal.returns
returns c =
    attribute_taken _ _ _ _ _ _ _ c.attribute_line.ensures _ c.in_ok-w.was _ c.has_room.ensures c.if-not-has_room.false c.if-n-ge-MAX_ATTRIBUTES.false
    _ _ _ _ _ c.narrow.ensures c.narrow-2.ensures c.narrow-3.ensures c.narrow-4.ensures c.narrow-5.ensures _ c.put_row.ensures
