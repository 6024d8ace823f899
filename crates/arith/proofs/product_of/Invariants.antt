-- `product_of` meets its contract: the whole product is the product so far, times what is left.
use mathlib.Core.Path.{◌≡◌}
use lib.ListN.{drop}
use Rattle.arith.specs.Product.{times_all, product_of}
use Rattle.arith.proofs.product_of.Given as goal

abbrev pub invariant-loop-d : goal.invariant-loop-d
invariant-loop-d l =
    product_of l.dims ≡ times_all l.all (drop l.d-index l.dims)
