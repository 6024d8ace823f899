-- `read_sheet` meets its contract.
use mathlib.Core.Path.{◌∙◌}
use Rattle.sheet.proofs.Whole.{read_all}
use Rattle.sheet.proofs.read_sheet.Goals as goal

pub returns : goal.returns
returns c =
    read_all c.args.text.now c.args.sheet.now _ _ _ c.if-sheet-lt-SHEET_CELLS.false c.clear-2.ensures (c.settle.ensures ∙ c.read_lines-answer.ensures)
