-- `check_ranges`: the four tables in turn. Assumes nothing.
use mathlib.Core.Path.{sym, ◌∙◌}
use Rattle.std.proofs.Common.{rules, ◌≡◌, ltb}
use Rattle.std.specs.Prelude.{Err}
use lib.ListN.{get_or}
use Rattle.tables.specs.Tables.{functions}
use Rattle.ranges.specs.Entry.{good_region}
use Rattle.ranges.specs.Range.{listed_by_operation, listed_by_block, listed_by_region}
use Rattle.ranges.proofs.Verdict.{first_is}
use Rattle.nesting_check.specs.Checks.{nested_operation, nested_block}
use Rattle.nesting_check.proofs.Ranged.{operations_stop, blocks_stop, regions_stop, functions_end}
use Rattle.nesting_check.proofs.check_ranges.Goals as goal

pub returns-in_err-used : goal.returns-in_err-used
returns-in_err-used c =
    let x = c.args.x.now in
    let e : c.from_residual.result ≡ Err c.in_err-used.field-0.0 = search rules in
    rw e (operations_stop x c.scan.result (rw c.operations.ensures at (c.scan.ensures (nested_operation x) (listed_by_operation x) (λ i r h q. search rules) (λ i r h q. search rules)))
    c.in_err-used.field-0.0 c.in_err-used.was)

pub returns-in_err-used-2 : goal.returns-in_err-used-2
returns-in_err-used-2 c =
    let x = c.args.x.now in
    let e : c.from_residual-in_err-used-2.result ≡ Err c.in_err-used-2.field-0.0 = search rules in
    rw e (blocks_stop x c.scan.result (rw c.operations.ensures at (c.scan.ensures (nested_operation x) (listed_by_operation x) (λ i r h q. search rules) (λ i r h q. search rules)))
    c.in_ok-used.used c.in_ok-used.was
    c.scan-2.result (rw c.blocks-2.ensures at (c.scan-2.ensures (nested_block x) (listed_by_block x) (λ i r h q. search rules) (λ i r h q. search rules)))
    c.in_err-used-2.field-0.0 c.in_err-used-2.was)

pub returns-in_err-scan : goal.returns-in_err-scan
returns-in_err-scan c =
    let x = c.args.x.now in
    let e : c.from_residual-in_err-scan.result ≡ Err c.in_err-scan.field-0.0 = search rules in
    rw e (regions_stop x c.scan.result (rw c.operations.ensures at (c.scan.ensures (nested_operation x) (listed_by_operation x) (λ i r h q. search rules) (λ i r h q. search rules)))
    c.in_ok-used.used c.in_ok-used.was
    c.scan-2.result (rw c.blocks-2.ensures at (c.scan-2.ensures (nested_block x) (listed_by_block x) (λ i r h q. search rules) (λ i r h q. search rules)))
    c.in_ok-used-2.used c.in_ok-used-2.was
    c.scan-3.result (rw c.regions.ensures at (c.scan-3.ensures (good_region x) (listed_by_region x) (λ i r h q. search rules) (λ i r h q. search rules)))
    c.in_err-scan.field-0.0 c.in_err-scan.was)

pub returns : goal.returns
returns c =
    let x = c.args.x.now in
    functions_end x c.scan.result (rw c.operations.ensures at (c.scan.ensures (nested_operation x) (listed_by_operation x) (λ i r h q. search rules) (λ i r h q. search rules)))
    c.in_ok-used.used c.in_ok-used.was
    c.scan-2.result (rw c.blocks-2.ensures at (c.scan-2.ensures (nested_block x) (listed_by_block x) (λ i r h q. search rules) (λ i r h q. search rules)))
    c.in_ok-used-2.used c.in_ok-used-2.was
    c.scan-3.result (rw c.regions.ensures at (c.scan-3.ensures (good_region x) (listed_by_region x) (λ i r h q. search rules) (λ i r h q. search rules)))
    c.in_ok-scan.field-0 c.in_ok-scan.was
    c.check_functions.result (c.check_functions.ensures ∙ sym (first_is 7 64 1 x.f x.counts.functions (λ p. ltb (get_or (functions x) p 0) x.counts.operations)))
