-- `check_sheet`: the sheet in range, or table 8. Assumes nothing.
use Rattle.ranges.specs.Range.{sheet_range}
use Rattle.ranges.proofs.check_sheet.Goals as goal

pub returns-then-good_sheet : goal.returns-then-good_sheet
unfolding sheet_range
returns-then-good_sheet c = rw (← c.good_sheet.ensures, c.if-good_sheet.true)

pub returns : goal.returns
unfolding sheet_range
returns c = rw (← c.good_sheet.ensures, c.if-good_sheet.false)
