-- `mark_functions`: what is left of the functions leads to the same marks. Assumes nothing.
use mathlib.Core.Path.{◌≡◌}
use lib.ListN.{drop}
use Rattle.listed.specs.Marks.{mark_all}
use Rattle.listed.proofs.mark_functions.Given as goal

abbrev pub invariant-loop-id : goal.invariant-loop-id
invariant-loop-id z = mark_all z.marks (drop z.id-index z.id-items) ≡ mark_all z.initial.marks z.id-items
