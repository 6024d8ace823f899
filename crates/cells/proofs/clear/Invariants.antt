-- `clear` leaves zeros, and the length. Assumes nothing.
use Rattle.cells.proofs.Parts.{Cleared}
use Rattle.cells.proofs.clear.Given as goal

abbrev pub invariant-loop-x : goal.invariant-loop-x
invariant-loop-x g z = Cleared g.T.Word.zero z.initial.x-items z.x-index z.x-items
