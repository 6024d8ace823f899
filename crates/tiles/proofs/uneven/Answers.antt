-- `uneven` meets its contract: the dims go in pairs.
use Rattle.std.proofs.Common.{rules, tests}
use mathlib.Core.Path.{◌∙◌}
use Rattle.std.proofs.lemmas.Iterator.{YieldsList-from_slice, YieldsList-from_zip}
use Rattle.std.proofs.lemmas.Iterator.Search.{any_from_yields_List}
use Rattle.tiles.specs.Tile.{dims_of}
use Rattle.tiles.specs.Shape.{undivided_by, is_uneven}
use Rattle.tiles.proofs.Pairs.{any_zip}
use Rattle.tiles.proofs.uneven.Goals as goal

pub returns : goal.returns
unfolding is_uneven
returns c =
    let xs = dims_of c.args.small in
    let ys = dims_of c.args.large in
    any_from_yields_List (λ z. undivided_by z.0 z.1) c.any.new.self _ c.any.result c.any.ensures.ran (YieldsList-from_zip (YieldsList-from_slice xs cc) (YieldsList-from_slice ys cc)) (λ x b q k. search (rules, tests))
    ∙ any_zip undivided_by xs ys
