-- `whole_into` meets its contract.
use Rattle.lines.specs.Into.{number_in}
use Rattle.lines.proofs.Attributes.{whole_bad, whole_held}
use Rattle.lines.proofs.whole_into.Goals as goal

pub returns-in_err-count : goal.returns-in_err-count
returns-in_err-count c =
    whole_bad (number_in c.args.width) _ _ _ _ _ c.list_into.ensures _ c.in_err-count.was c.from_residual.ensures

pub returns : goal.returns
returns c =
    whole_held (number_in c.args.width) _ _ _ _ _ c.list_into.ensures _ c.in_ok-count.was
