-- `ask_results`: what is left answers the same. Assumes nothing.
use Rattle.capabilities.specs.Part.{result_asks}
use Rattle.tables.proofs.Each.{EachLeft}
use Rattle.capabilities.proofs.Asked.ask_results.Given as goal

abbrev pub invariant-loop-id : goal.invariant-loop-id
invariant-loop-id z = EachLeft (result_asks z.self.g z.x z.operation) z.types 0 z.id-index
