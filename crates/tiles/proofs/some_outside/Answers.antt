-- `some_outside` meets its contract: the sizes go with the dims in pairs.
use Rattle.std.proofs.Common.{rules, tests}
use mathlib.Core.Path.{◌∙◌}
use Rattle.std.proofs.lemmas.Iterator.{YieldsList-from_slice, YieldsList-from_zip}
use Rattle.std.proofs.lemmas.Iterator.Search.{any_from_yields_List}
use Rattle.arith.specs.Signed.{signed_of}
use Rattle.tiles.specs.Tile.{dims_of}
use Rattle.tiles.specs.Rules.{outside_dim}
use Rattle.tiles.proofs.Pairs.{any_zip_map}
use Rattle.tiles.proofs.some_outside.Goals as goal

pub returns : goal.returns
returns c =
    let xs = c.args.sizes.now in
    let ys = dims_of c.args.t in
    any_from_yields_List (λ z. outside_dim (signed_of z.0) z.1) c.any.new.self _ c.any.result c.any.ensures.ran (YieldsList-from_zip (YieldsList-from_slice xs cc) (YieldsList-from_slice ys cc)) (λ x b q k. search (rules, tests))
    ∙ any_zip_map signed_of outside_dim xs ys
