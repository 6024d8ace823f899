-- `walk_order`: a walk that is refused leaves its list cleared. Assumes nothing.
use Rattle.std.proofs.Common.{rules}
use Rattle.walk.proofs.Filling.{walked_whole}
use Rattle.walk.proofs.walk_order.Goals as goal

pub returns-else-is_err-clause-result_after : goal.returns-else-is_err-clause-result_after
returns-else-is_err-clause-result_after c = walked_whole _ _ _ _ _ (search rules) c.visit_functions-walked.ensures
