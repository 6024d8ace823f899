-- `mark_arguments`: what is left of the blocks' arguments leads to the same marks. Assumes nothing.
use Rattle.tables.specs.Tables.{arguments}
use Rattle.listed.proofs.Marks.{Marking}
use Rattle.values.proofs.mark_arguments.Given as goal

abbrev pub invariant-loop-j : goal.invariant-loop-j
invariant-loop-j z = Marking (arguments z.x) z.x.counts.blocks z.initial.marks z.j z.marks
