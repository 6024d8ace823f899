-- `has_axes` meets its contract: an axis that is missing decides.
use mathlib.Core.Path.{sym, ◌∙◌}
use Rattle.tiles.proofs.Axes.{mem_is, axes_not}
use Rattle.tiles.proofs.has_axes.Goals as goal

pub returns-then-not-contains : goal.returns-then-not-contains
returns-then-not-contains c =
    let p = c.args.entries.now in
    let k = c.loop-axis.axis-counter in
    sym (axes_not p k c.args.n (mem_is k p ∙ sym c.contains.ensures.value ∙ c.if-not-contains.true) c.loop-axis-test.true)
