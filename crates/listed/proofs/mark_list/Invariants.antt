-- `mark_list`: what is left of the list leads to the same marks. Assumes nothing.
use mathlib.Core.Path.{◌≡◌}
use lib.ListN.{drop}
use Rattle.listed.specs.Marks.{mark_all}
use Rattle.listed.proofs.mark_list.Given as goal

abbrev pub invariant-loop-x : goal.invariant-loop-x
invariant-loop-x z = mark_all z.marks (drop z.x-index z.xs) ≡ mark_all z.initial.marks z.xs
