-- `Reader::read_operands`: one number for each operand. Assumes nothing.
use Rattle.read_back.specs.Stage.{staged}
use Rattle.read_back.proofs.Stage.{Running}
use Rattle.read_back.proofs.Reader.read_operands.Given as goal

abbrev pub invariant-loop-k : goal.invariant-loop-k
invariant-loop-k z =
    Running z.self.numbers.now z.operation z.count z.initial.reading.live (staged z.initial.reading z.initial.places) z.reading z.places z.k
