-- `Asked::new`: each mark that is put is true. Assumes nothing.
use Rattle.capabilities.specs.Part.{Knows}
use Rattle.capabilities.proofs.Asked.new.Given as goal

abbrev pub invariant-loop-kind : goal.invariant-loop-kind
invariant-loop-kind z = Knows z.g z.known
