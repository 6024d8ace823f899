-- `function_line` meets its contract: its one number.
use mathlib.Core.Path.{◌∙◌}
use Rattle.lines.specs.Field.{id32}
use Rattle.lines.proofs.Fixed.{function_is}
use Rattle.lines.proofs.Walk.{first, here}
use Rattle.lines.proofs.function_line.Goals as goal

pub returns : goal.returns
returns c =
    let at1 = first c.new.ensures.line c.new.ensures.read in
    here at1 id32 c.number.ensures.number ∙ function_is _
