-- `find_near` meets its contract: a byte that was passed is not the one, so the end is the same from the next place.
use mathlib.Core.Path.{sym, ◌∙◌}
use native.Mathlib.Omega.{arith}
use Rattle.fields.proofs.Parts.{until_here, until_next, until_end}
use Rattle.fields.proofs.find_near.Goals as goal

pub returns-then-s-i : goal.returns-then-s-i
returns-then-s-i c =
    sym (until_here _ _ _ (omega arith) c.if-s-i.true) ∙ c.loop-i.invariant

pub loop-i-preserved : goal.loop-i-preserved
loop-i-preserved c =
    until_next _ _ _ (omega arith) c.if-s-i.false ∙ c.loop-i.invariant

pub returns : goal.returns
returns c =
    sym (until_end _ _ _ (omega arith)) ∙ c.loop-i.invariant
