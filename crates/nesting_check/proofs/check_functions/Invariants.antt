-- `check_functions`: entry by entry, up to the first that is bad. Assumes nothing.
use lib.Dec.{ltb}
use lib.ListN.{get_or}
use Rattle.tables.specs.Tables.{functions}
use Rattle.ranges.proofs.Find.{Passed}
use Rattle.ranges.proofs.Scan.{bad}
use Rattle.nesting_check.proofs.check_functions.Given as goal

abbrev pub invariant-loop-entry : goal.invariant-loop-entry
invariant-loop-entry z = Passed (bad z.table (λ p. ltb (get_or (functions z.x) p 0) z.x.counts.operations)) z.table.count z.entry
