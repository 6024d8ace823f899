-- `ask_operands`: what is left answers the same. Assumes nothing.
use Rattle.capabilities.specs.Part.{operand_asks}
use Rattle.tables.proofs.Each.{EachLeft}
use Rattle.capabilities.proofs.Asked.ask_operands.Given as goal

abbrev pub invariant-loop-operand : goal.invariant-loop-operand
invariant-loop-operand z = EachLeft (operand_asks z.self.g z.x z.operation) z.operands 0 z.operand-index
