-- `check_capabilities`: what is left answers the same. Assumes nothing.
use Rattle.capabilities.specs.Ask.{operation_asks}
use Rattle.tables.proofs.Each.{EachLeft}
use Rattle.capabilities.proofs.check_capabilities.Given as goal

abbrev pub invariant-loop-operation : goal.invariant-loop-operation
invariant-loop-operation z = EachLeft (operation_asks z.asked.g z.x) z.order 0 z.operation-index
