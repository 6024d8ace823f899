-- `check_with_sheet`: code 1 over the tables and the sheet, then 2, 3 and 4, the walk order and the claims. Assumes nothing.
use mathlib.Core.Path.{◌∙◌}
use Rattle.tables.specs.Answer.{and_then}
use Rattle.tables.proofs.Each.{both_accept, then_accepts}
use Rattle.ranges.specs.Range.{table_ranges, sheet_range}
use Rattle.table_checks.specs.Checks.{after_ranges, sheet_checks}
use Rattle.table_checks.proofs.Turn.{settles_as}
use Rattle.table_checks.proofs.Bare.{sheet_checks_are, hands}
use Rattle.table_checks.proofs.check_with_sheet.Goals as goal

pub returns : goal.returns
unfolding sheet_checks
returns c =
    let x = c.args.x.now in
    let sheet = c.args.sheet.now in
    let q = c.check_ranges.ensures in (
      settles_as (sheet_checks_are x sheet _ q) c.settle.ensures.settled,
      λ k z.
          let p = both_accept (table_ranges x) (and_then (sheet_range sheet) (after_ranges x)) k in
          let r = both_accept (sheet_range sheet) (after_ranges x) p.1 in
          hands x p.0 r.1 (c.settle.ensures.handed (q ∙ then_accepts p.0 r.0)) z,
    )
