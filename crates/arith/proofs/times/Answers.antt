-- `times` meets its contract: the checked product is what is held.
use mir.Facts.{to_z-of_z}
use Rattle.arith.specs.Product.{times_of}
use Rattle.arith.proofs.Products.{held_is}
use Rattle.arith.proofs.times.Goals as goal

pub returns : goal.returns
unfolding times_of
returns c =
    held_is _ _ (simp (to_z-of_z c.ranges.a, to_z-of_z c.ranges.b) at c.checked_mul.ensures)
