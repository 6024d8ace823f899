-- `single_into` meets its contract.
use mathlib.Core.Path.{sym, ◌∙◌}
use Rattle.lines.proofs.Attributes.{single_bad, single_held}
use Rattle.lines.proofs.single_into.Goals as goal

pub returns-in_err-n : goal.returns-in_err-n
returns-in_err-n c =
    single_bad _ _ _ _ (sym c.number_in.ensures ∙ c.in_err-n.was) c.from_residual.ensures

pub returns : goal.returns
returns c =
    single_held _ _ _ _ _ (sym c.number_in.ensures ∙ c.in_ok-n.was) c.put.ensures
