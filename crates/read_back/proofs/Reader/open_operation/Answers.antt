-- `Reader::open_operation`: the operands, then a result for each index. Assumes nothing.
use Rattle.std.proofs.Common.{rules}
use Rattle.tables.specs.declared.Place.TheVariants.{Result}
use Rattle.read_back.proofs.Visits.{opened}
use Rattle.read_back.proofs.Reader.open_operation.Goals as goal

pub returns : goal.returns
returns c =
    let a = c.args in
    opened a.self.now.x.now a.id a.reading.now.live _ _ c.operands_span.ensures c.result_types_span.ensures c.read_operands.ensures
    (c.push_each.ensures (Result a.id) (λ k p h q. search rules))
