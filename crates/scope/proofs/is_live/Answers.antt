-- `is_live`: a value is live where it has a position. Assumes nothing.
use mathlib.Core.Path.{ap, ◌∙◌}
use Rattle.nesting.specs.Means.{given}
use Rattle.scope.proofs.Laws.{mem_position, some_given}
use Rattle.scope.proofs.is_live.Goals as goal

pub returns : goal.returns
returns c = λ nv live s. c.is_some.ensures ∙ some_given c.position.result ∙ ap given (c.position.ensures nv live s) ∙ mem_position c.args.v 0 live
