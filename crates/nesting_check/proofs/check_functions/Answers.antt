-- `check_functions`: entry by entry, up to the first that is bad. Assumes nothing.
use Prim.Native.Nat.{ℕ}
use mathlib.Core.Path.{◌∙◌}
use lib.Dec.{ltb}
use lib.ListN.{get_or}
use Rattle.tables.specs.Tables.{functions}
use Rattle.ranges.proofs.Scan.{check_step, check_stop, check_end}
use Rattle.ranges.proofs.Verdict.{first_as, first_is}
use Rattle.nesting_check.proofs.check_functions.Goals as goal

pub loop-entry-preserved : goal.loop-entry-preserved
loop-entry-preserved c =
    let x = c.args.x.now in
    let lp = c.loop-entry in
    check_step c.functions-table.result (λ p. ltb (get_or (functions x) p 0) x.counts.operations) lp.entry lp.invariant c.loop-entry-test.true _ _ c.stands.ensures
    (rw (c.function.ensures, c.counts.ensures)) c.if-not-stands-function.false

pub returns-then-not-stands-function : goal.returns-then-not-stands-function
returns-then-not-stands-function c =
    let x = c.args.x.now in
    let lp = c.loop-entry in
    let q = λ (p : ℕ). ltb (get_or (functions x) p 0) x.counts.operations in
    first_as c.functions-table.ensures q
    (check_stop c.functions-table.result q lp.entry lp.invariant c.loop-entry-test.true _ _ c.stands.ensures
    (rw (c.function.ensures, c.counts.ensures)) c.if-not-stands-function.true)
    ∙ first_is 7 64 1 x.f x.counts.functions q

pub returns : goal.returns
returns c =
    let x = c.args.x.now in
    let q = λ (p : ℕ). ltb (get_or (functions x) p 0) x.counts.operations in
    first_as c.functions-table.ensures q (check_end c.functions-table.result q c.loop-entry.entry c.loop-entry.invariant c.loop-entry-test.false)
    ∙ first_is 7 64 1 x.f x.counts.functions q
