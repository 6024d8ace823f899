-- `twice_operations`: the marks of functions and blocks together. Assumes nothing.
use mathlib.Core.Path.{ap, ◌∙◌}
use mathlib.Core.List.{List}
use Prim.Native.Nat.{ℕ}
use Rattle.std.proofs.Common.{rules}
use Rattle.tables.specs.Tables.{operations}
use Rattle.listed.specs.Marks.{lowest_marked}
use Rattle.listed.specs.Twice.{refused}
use Rattle.listed.proofs.Marks.{operations_marked}
use Rattle.listed.proofs.twice_operations.Goals as goal

pub returns : goal.returns
returns c =
    let x = c.args.x.now in
    let lists = rw (c.counts.ensures) at (c.mark_lists_by.ensures (operations x) (λ i r h e. search rules)) in
    c.lowest_marked.ensures
    ∙ rw (c.counts-2.ensures)
    (ap (λ (m : List ℕ). refused 0 (lowest_marked m x.counts.operations)) (operations_marked x c.mark_functions.ensures lists))
