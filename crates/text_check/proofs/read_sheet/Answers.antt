-- `read_sheet`: what is said of the sheet, and what it holds. Assumes nothing.
use mathlib.Core.Path.{◌∙◌, ap}
use Rattle.std.specs.Prelude.{Ok, Err}
use Rattle.text_check.proofs.Ways.{refused_low, said_of, left_of}
use Rattle.text_check.proofs.read_sheet.Goals as goal

pub in_sheet-requires : goal.in_sheet-requires
in_sheet-requires c = refused_low c.args.text.now c.args.sheet.now c.read_sheet.ensures c.in-Err.is

pub returns-in-Ok : goal.returns-in-Ok
returns-in-Ok c = record {
  said = said_of c.args.text.now c.args.sheet.now c.read_sheet.ensures (Ok tt) c.in-Ok.is;
  entries = left_of c.args.text.now c.args.sheet.now c.read_sheet.ensures;
}

pub returns-in-Err : goal.returns-in-Err
returns-in-Err c = record {
  said = ap Err c.in_sheet.ensures ∙ said_of c.args.text.now c.args.sheet.now c.read_sheet.ensures (Err c.in-Err.why) c.in-Err.is;
  entries = left_of c.args.text.now c.args.sheet.now c.read_sheet.ensures;
}
