-- `all_below`: every entry, one by one. Assumes nothing.
use mathlib.Core.Path.{◌∙◌}
use lib.Dec.{ltb}
use Rattle.std.proofs.Common.{rules, tests}
use Rattle.std.proofs.lemmas.Iterator.{YieldsList-from_slice}
use Rattle.std.proofs.lemmas.Iterator.Search.{all_from_yields_List}
use Rattle.ranges.proofs.Find.{all_is}
use Rattle.ranges.proofs.all_below.Goals as goal

pub returns : goal.returns
returns c =
    let xs = c.args.xs.now in
    all_from_yields_List (λ x. ltb x c.args.n) _ _ _ c.all.ensures.ran (YieldsList-from_slice xs cc) (λ x b q k. search (rules, tests)) ∙ all_is (λ x. ltb x c.args.n) xs
