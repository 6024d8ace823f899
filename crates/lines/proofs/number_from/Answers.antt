-- `number_from` meets its contract: of each width the number that is taken.
use mathlib.Core.Path.{sym, ◌∙◌}
use Rattle.lines.proofs.Moving.{unsigned_taken, signed_taken}
use Rattle.lines.proofs.number_from.Goals as goal

pub returns-in-Unsigned : goal.returns-in-Unsigned
returns-in-Unsigned c =
    c.unsigned_from.ensures ∙ unsigned_taken _ _ _ _ ∙ sym (rw c.in-Unsigned.is)

pub returns-in-Signed : goal.returns-in-Signed
returns-in-Signed c =
    c.signed_from.ensures ∙ signed_taken _ _ _ _ ∙ sym (rw c.in-Signed.is)
