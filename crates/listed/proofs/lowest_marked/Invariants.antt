-- `lowest_marked`: a search for a mark above 1. Assumes nothing.
use mathlib.Core.Path.{◌≡◌}
use lib.Dec.{ltb}
use lib.ListN.{get_or}
use Rattle.cells.specs.Lists.{find}
use Rattle.listed.specs.Marks.{lowest_marked}
use Rattle.listed.proofs.Find.{later}
use Rattle.listed.proofs.lowest_marked.Given as goal

abbrev pub invariant-loop-id : goal.invariant-loop-id
invariant-loop-id z = find (λ j. ltb 1 (get_or z.marks j 0)) (later z.n z.id) ≡ lowest_marked z.marks z.n
