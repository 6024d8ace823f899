-- `stretched` meets its contract: the dims go in pairs.
use Rattle.std.proofs.Common.{rules, tests}
use mathlib.Core.Path.{◌∙◌}
use Rattle.std.proofs.lemmas.Iterator.{YieldsList-from_slice, YieldsList-from_zip}
use Rattle.std.proofs.lemmas.Iterator.Search.{all_from_yields_List}
use Rattle.tiles.specs.Tile.{dims_of}
use Rattle.tiles.specs.Shape.{stretches_to, is_stretched}
use Rattle.tiles.proofs.Pairs.{all_zip}
use Rattle.tiles.proofs.stretched.Goals as goal

pub returns : goal.returns
unfolding is_stretched
returns c =
    let xs = dims_of c.args.src in
    let ys = dims_of c.args.dst in
    all_from_yields_List (λ z. stretches_to z.0 z.1) c.all.new.self _ c.all.result c.all.ensures.ran (YieldsList-from_zip (YieldsList-from_slice xs cc) (YieldsList-from_slice ys cc)) (λ x b q k. search (rules, tests))
    ∙ all_zip stretches_to xs ys
