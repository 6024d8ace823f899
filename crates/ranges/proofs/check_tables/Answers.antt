-- `check_tables`: the seven tables in turn. Assumes nothing.
use mathlib.Core.Path.{◌≡◌, sym, ◌∙◌}
use lib.Dec.{ltb}
use lib.ListN.{get_or}
use Rattle.std.proofs.Common.{rules}
use Rattle.std.specs.Prelude.{Err}
use Rattle.tables.specs.Tables.{functions}
use Rattle.ranges.specs.Entry.{good_type, good_value, good_operation, good_attribute, good_block, good_region}
use Rattle.ranges.specs.Range.{listed_by_operation, listed_by_attribute, listed_by_block, listed_by_region}
use Rattle.ranges.proofs.Verdict.{first_as, scan_as, types_stop, values_stop, operations_stop, attributes_stop, blocks_stop, regions_stop, functions_end}
use Rattle.ranges.proofs.check_tables.Goals as goal

pub returns-in_err-first_bad_by : goal.returns-in_err-first_bad_by
returns-in_err-first_bad_by c =
    let x = c.args.x.now in
    let q : c.from_residual.result ≡ Err c.in_err-first_bad_by.field-0.0 = search rules in
    q ∙ sym (types_stop x
    (first_as c.types.ensures (good_type x) (c.first_bad_by.ensures (good_type x) (λ i r l e. search rules)))
    c.in_err-first_bad_by.was)

pub returns-in_err-first_bad_by-2 : goal.returns-in_err-first_bad_by-2
returns-in_err-first_bad_by-2 c =
    let x = c.args.x.now in
    let q : c.from_residual-in_err-first_bad_by-2.result ≡ Err c.in_err-first_bad_by-2.field-0.0 = search rules in
    q ∙ sym (values_stop x
    (first_as c.types.ensures (good_type x) (c.first_bad_by.ensures (good_type x) (λ i r l e. search rules)))
    c.in_ok-first_bad_by.was
    (first_as c.values.ensures (good_value x) (c.first_bad_by-2.ensures (good_value x) (λ i r l e. search rules)))
    c.in_err-first_bad_by-2.was)

pub returns-in_err-used : goal.returns-in_err-used
returns-in_err-used c =
    let x = c.args.x.now in
    let q : c.from_residual-in_err-used.result ≡ Err c.in_err-used.field-0.0 = search rules in
    q ∙ sym (operations_stop x
    (first_as c.types.ensures (good_type x) (c.first_bad_by.ensures (good_type x) (λ i r l e. search rules)))
    c.in_ok-first_bad_by.was
    (first_as c.values.ensures (good_value x) (c.first_bad_by-2.ensures (good_value x) (λ i r l e. search rules)))
    c.in_ok-first_bad_by-2.was
    (scan_as c.operations.ensures (good_operation x) (listed_by_operation x) _ (c.scan_by.ensures (good_operation x) (listed_by_operation x)
    (λ i r l e. search rules) (λ i r l e. search rules)))
    c.in_err-used.was)

pub returns-in_err-used-2 : goal.returns-in_err-used-2
returns-in_err-used-2 c =
    let x = c.args.x.now in
    let q : c.from_residual-in_err-used-2.result ≡ Err c.in_err-used-2.field-0.0 = search rules in
    q ∙ sym (attributes_stop x
    (first_as c.types.ensures (good_type x) (c.first_bad_by.ensures (good_type x) (λ i r l e. search rules)))
    c.in_ok-first_bad_by.was
    (first_as c.values.ensures (good_value x) (c.first_bad_by-2.ensures (good_value x) (λ i r l e. search rules)))
    c.in_ok-first_bad_by-2.was
    (scan_as c.operations.ensures (good_operation x) (listed_by_operation x) _ (c.scan_by.ensures (good_operation x) (listed_by_operation x)
    (λ i r l e. search rules) (λ i r l e. search rules)))
    c.in_ok-used.was
    (scan_as c.attributes.ensures (good_attribute x) (listed_by_attribute x) _ (c.scan_by-2.ensures (good_attribute x) (listed_by_attribute x)
    (λ i r l e. search rules) (λ i r l e. search rules)))
    c.in_err-used-2.was)

pub returns-in_err-used-3 : goal.returns-in_err-used-3
returns-in_err-used-3 c =
    let x = c.args.x.now in
    let q : c.from_residual-in_err-used-3.result ≡ Err c.in_err-used-3.field-0.0 = search rules in
    q ∙ sym (blocks_stop x
    (first_as c.types.ensures (good_type x) (c.first_bad_by.ensures (good_type x) (λ i r l e. search rules)))
    c.in_ok-first_bad_by.was
    (first_as c.values.ensures (good_value x) (c.first_bad_by-2.ensures (good_value x) (λ i r l e. search rules)))
    c.in_ok-first_bad_by-2.was
    (scan_as c.operations.ensures (good_operation x) (listed_by_operation x) _ (c.scan_by.ensures (good_operation x) (listed_by_operation x)
    (λ i r l e. search rules) (λ i r l e. search rules)))
    c.in_ok-used.was
    (scan_as c.attributes.ensures (good_attribute x) (listed_by_attribute x) _ (c.scan_by-2.ensures (good_attribute x) (listed_by_attribute x)
    (λ i r l e. search rules) (λ i r l e. search rules)))
    c.in_ok-used-2.was
    (scan_as c.blocks-2.ensures (good_block x) (listed_by_block x) _ (c.scan_by-3.ensures (good_block x) (listed_by_block x)
    (λ i r l e. search rules) (λ i r l e. search rules)))
    c.in_err-used-3.was)

pub returns-in_err-scan_by : goal.returns-in_err-scan_by
returns-in_err-scan_by c =
    let x = c.args.x.now in
    let q : c.from_residual-in_err-scan_by.result ≡ Err c.in_err-scan_by.field-0.0 = search rules in
    q ∙ sym (regions_stop x
    (first_as c.types.ensures (good_type x) (c.first_bad_by.ensures (good_type x) (λ i r l e. search rules)))
    c.in_ok-first_bad_by.was
    (first_as c.values.ensures (good_value x) (c.first_bad_by-2.ensures (good_value x) (λ i r l e. search rules)))
    c.in_ok-first_bad_by-2.was
    (scan_as c.operations.ensures (good_operation x) (listed_by_operation x) _ (c.scan_by.ensures (good_operation x) (listed_by_operation x)
    (λ i r l e. search rules) (λ i r l e. search rules)))
    c.in_ok-used.was
    (scan_as c.attributes.ensures (good_attribute x) (listed_by_attribute x) _ (c.scan_by-2.ensures (good_attribute x) (listed_by_attribute x)
    (λ i r l e. search rules) (λ i r l e. search rules)))
    c.in_ok-used-2.was
    (scan_as c.blocks-2.ensures (good_block x) (listed_by_block x) _ (c.scan_by-3.ensures (good_block x) (listed_by_block x)
    (λ i r l e. search rules) (λ i r l e. search rules)))
    c.in_ok-used-3.was
    (scan_as c.regions.ensures (good_region x) (listed_by_region x) _ (c.scan_by-4.ensures (good_region x) (listed_by_region x)
    (λ i r l e. search rules) (λ i r l e. search rules)))
    c.in_err-scan_by.was)

pub returns : goal.returns
returns c =
    let x = c.args.x.now in
    functions_end x
    (first_as c.types.ensures (good_type x) (c.first_bad_by.ensures (good_type x) (λ i r l e. search rules)))
    c.in_ok-first_bad_by.was
    (first_as c.values.ensures (good_value x) (c.first_bad_by-2.ensures (good_value x) (λ i r l e. search rules)))
    c.in_ok-first_bad_by-2.was
    (scan_as c.operations.ensures (good_operation x) (listed_by_operation x) _ (c.scan_by.ensures (good_operation x) (listed_by_operation x)
    (λ i r l e. search rules) (λ i r l e. search rules)))
    c.in_ok-used.was
    (scan_as c.attributes.ensures (good_attribute x) (listed_by_attribute x) _ (c.scan_by-2.ensures (good_attribute x) (listed_by_attribute x)
    (λ i r l e. search rules) (λ i r l e. search rules)))
    c.in_ok-used-2.was
    (scan_as c.blocks-2.ensures (good_block x) (listed_by_block x) _ (c.scan_by-3.ensures (good_block x) (listed_by_block x)
    (λ i r l e. search rules) (λ i r l e. search rules)))
    c.in_ok-used-3.was
    (scan_as c.regions.ensures (good_region x) (listed_by_region x) _ (c.scan_by-4.ensures (good_region x) (listed_by_region x)
    (λ i r l e. search rules) (λ i r l e. search rules)))
    c.in_ok-scan_by.was
    (first_as c.functions.ensures (λ p. ltb (get_or (functions x) p 0) x.counts.operations) (c.first_bad_by-3.ensures (λ p. ltb (get_or (functions x) p 0) x.counts.operations)
    (λ i r l e. search rules)))
