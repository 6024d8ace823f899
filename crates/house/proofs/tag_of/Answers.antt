-- `tag_of` meets its contract where no tag fits by its length, or by its first byte.
use native.Mathlib.Omega.{arith}
use Rattle.house.proofs.Tags.{no_tag, not_tile}
use Rattle.house.proofs.tag_of.Goals as goal

pub returns-in_default-3 : goal.returns-in_default-3
returns-in_default-3 c = no_tag c.args.tag.now (λ h. omega arith) (λ h. omega arith)

pub returns-in_default-7 : goal.returns-in_default-7
returns-in_default-7 c = not_tile c.args.tag.now (omega arith) (λ h. omega arith)

pub returns-in_default-8 : goal.returns-in_default-8
returns-in_default-8 c = no_tag c.args.tag.now (λ h. omega arith) (λ h. omega arith)
