-- `all_signed32`: every entry, one by one. Assumes nothing.
use mathlib.Core.Path.{◌∙◌}
use Rattle.std.proofs.Common.{rules, tests}
use Rattle.std.proofs.lemmas.Iterator.{YieldsList-from_slice}
use Rattle.std.proofs.lemmas.Iterator.Search.{all_from_yields_List}
use Rattle.ranges.specs.Entry.{signed32}
use Rattle.ranges.proofs.Find.{all_is}
use Rattle.ranges.proofs.all_signed32.Goals as goal

pub returns : goal.returns
returns c =
    let xs = c.args.xs.now in
    all_from_yields_List signed32 _ _ _ c.all.ensures.ran (YieldsList-from_slice xs cc) (λ x b q k. search (rules, tests)) ∙ all_is signed32 xs
