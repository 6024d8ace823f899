-- `read_all`: function after function, each afresh. Assumes nothing.
use mathlib.Core.List.{[]}
use Rattle.read_back.specs.Stage.{start, entry_uses}
use Rattle.read_back.proofs.Visits.{Going}
use Rattle.read_back.proofs.read_all.Given as goal

abbrev pub invariant-loop-id : goal.invariant-loop-id
invariant-loop-id z =
    Going z.fn.numbers (λ live. entry_uses z.fn.x) z.id-items [] (start z.initial.places) z.reading z.places z.id-index
