-- `check_tables`: code 1, then 2, 3 and 4, the walk order and the claims. Assumes nothing.
use mathlib.Core.Path.{◌∙◌}
use Rattle.tables.proofs.Each.{both_accept}
use Rattle.ranges.specs.Range.{table_ranges}
use Rattle.table_checks.specs.Checks.{after_ranges, table_checks}
use Rattle.table_checks.proofs.Turn.{settles_as}
use Rattle.table_checks.proofs.Bare.{checks_are, hands}
use Rattle.table_checks.proofs.check_tables.Goals as goal

pub returns : goal.returns
unfolding table_checks
returns c =
    let x = c.args.x.now in
    let q = c.check_tables.ensures in (
      settles_as (checks_are x _ q) c.settle.ensures.settled,
      λ k z.
          let p = both_accept (table_ranges x) (after_ranges x) k in
          hands x p.0 p.1 (c.settle.ensures.handed (q ∙ p.0)) z,
    )
