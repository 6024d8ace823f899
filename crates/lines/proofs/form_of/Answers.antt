-- `form_of` meets its contract: one letter, by its byte.
use Rattle.lines.proofs.Attributes.{form_long}
use Rattle.lines.proofs.form_of.Goals as goal

pub returns-then-letter-ne1 : goal.returns-then-letter-ne1
returns-then-letter-ne1 c =
    form_long c.args.letter.now c.if-letter-ne1.true
