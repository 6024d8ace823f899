-- `tag_of` meets its contract where no tag fits by its length, or by its first byte.
use native.Mathlib.Omega.{arith}
use Rattle.sheet.proofs.Ways.{no_tag, not_sheet}
use Rattle.sheet.proofs.tag_of.Goals as goal

pub returns-in_default-3 : goal.returns-in_default-3
returns-in_default-3 c = no_tag c.args.tag.now (λ h. omega arith) (λ h. omega arith)

pub returns-in_default-8 : goal.returns-in_default-8
returns-in_default-8 c = not_sheet c.args.tag.now (omega arith) (λ h. omega arith)

pub returns-in_default-9 : goal.returns-in_default-9
returns-in_default-9 c = no_tag c.args.tag.now (λ h. omega arith) (λ h. omega arith)
