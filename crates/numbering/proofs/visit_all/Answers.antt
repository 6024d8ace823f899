-- `visit_all`: the functions over a new stack, which has a place for each value. Assumes nothing.
use Prim.Native.Nat.{◌≤◌}
use native.Mathlib.Omega.{arith}
use mathlib.Core.Path.{ap}
use mathlib.Core.List.{List}
use lib.ListN.{length}
use Rattle.tables.specs.Tables.{Tables, lent}
use Rattle.tables.specs.Sizes.{max_values}
use Rattle.tables.specs.declared.Counts.{Counts}
use Rattle.table_checks.proofs.Handed.{claims_tell}
use Rattle.numbering.proofs.Passed.{values_fit, room}
use Rattle.numbering.proofs.visit_all.Goals as goal

pub returns-then-values-le-FEW_VALUES : goal.returns-then-values-le-FEW_VALUES
returns-then-values-le-FEW_VALUES c = λ t v a passed filled hn hl.
    let y : Tables = lent t v c.args.x.now.o a c.args.x.now.b c.args.x.now.r c.args.x.now.f c.args.x.now.l c.args.x.now.counts in
    let same = ap (λ (n : Counts). n.values) c.counts-values.ensures in
    c.visit_functions.ensures t v a (claims_tell y passed _ _ filled) (room y passed (omega (arith, same, c.if-values-le-FEW_VALUES.true)) (omega (arith, same, c.if-values-le-FEW_VALUES.true)) hn hl)

pub returns-else-values-le-FEW_VALUES : goal.returns-else-values-le-FEW_VALUES
returns-else-values-le-FEW_VALUES c = λ t v a passed filled hn hl.
    let y : Tables = lent t v c.args.x.now.o a c.args.x.now.b c.args.x.now.r c.args.x.now.f c.args.x.now.l c.args.x.now.counts in
    let fits : y.counts.values ≤ max_values = values_fit y passed in
    c.visit_functions-else-values-le-FEW_VALUES.ensures t v a (claims_tell y passed _ _ filled) (room y passed (omega (arith, fits)) (omega (arith, fits)) hn hl)
