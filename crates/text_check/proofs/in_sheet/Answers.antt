-- `in_sheet`: a field is told by 100 more. Assumes nothing.
use mathlib.Core.Path.{refl}
use Rattle.text_check.specs.Texts.{in_sheet}
use Rattle.text_check.proofs.Ways.{other_told}
use Rattle.text_check.proofs.in_sheet.Goals as goal

pub returns-in_default : goal.returns-in_default
returns-in_default c = other_told c.args.why c.in_default.not-NotInForm

pub returns-in-NotInForm : goal.returns-in-NotInForm
unfolding in_sheet
returns-in-NotInForm c = rw c.in-NotInForm.is refl
