-- `value_line` meets its contract: field by field, as the definition goes.
use mathlib.Core.Path.{sym, ◌∙◌, ap}
use Prim.Native.Nat.{◌<◌}
use lib.ListN.{length}
use Rattle.fields.proofs.Digits.{none_left, some_left}
use Rattle.lines.specs.Field.{id32, integer64}
use Rattle.lines.specs.Line.{value_line}
use Rattle.lines.proofs.Kept.{got, missed}
use Rattle.lines.proofs.Fixed.{value_free, value_half, value_operation, value_index, value_row}
use Rattle.lines.proofs.Walk.{hands_up, first, next, there, took, fails}
use Rattle.lines.proofs.value_line.Goals as goal

pub returns-in_err-type_id : goal.returns-in_err-type_id
unfolding value_line
returns-in_err-type_id c =
    let at1 = first c.new-rest.ensures.line c.new-rest.ensures.read in
    let no = fails at1 id32 c.number.ensures.number c.in_err-type_id.was c.from_residual.ensures.1 in
    rw no.0 no.1

pub returns-then-is_empty-2 : goal.returns-then-is_empty-2
returns-then-is_empty-2 c =
    let at1 = first c.new-rest.ensures.line c.new-rest.ensures.read in
    let type_id = took at1 id32 c.number.ensures.number c.in_ok-type_id.was in
    let at2 = next at1 c.in_ok-type_id.ensures.line c.in_ok-type_id.ensures.read in
    let owner = there at2 c.field-owner.ensures.field in
    let at3 = next at2 c.field-owner.ensures.line c.field-owner.ensures.read in
    let result = there at3 c.field-result_of.ensures.field in
    value_free _ _ type_id
    (ap length (sym owner) ∙ none_left c.is_empty.ensures c.if-is_empty.true) (ap length (sym result) ∙ none_left c.is_empty-then-is_empty.ensures c.if-is_empty-2.true)

pub returns-then-is_empty : goal.returns-then-is_empty
returns-then-is_empty c =
    let at1 = first c.new-rest.ensures.line c.new-rest.ensures.read in
    let type_id = took at1 id32 c.number.ensures.number c.in_ok-type_id.was in
    let at2 = next at1 c.in_ok-type_id.ensures.line c.in_ok-type_id.ensures.read in
    let owner = there at2 c.field-owner.ensures.field in
    let at3 = next at2 c.field-owner.ensures.line c.field-owner.ensures.read in
    let result = there at3 c.field-result_of.ensures.field in
    value_half _ _ type_id
    (ap length (sym owner) ∙ none_left c.is_empty.ensures c.if-is_empty.true) (rw (← result) (some_left c.is_empty-then-is_empty.ensures c.if-is_empty-2.false))

pub returns-in_err-operation : goal.returns-in_err-operation
returns-in_err-operation c =
    let at1 = first c.new-rest.ensures.line c.new-rest.ensures.read in
    let type_id = took at1 id32 c.number.ensures.number c.in_ok-type_id.was in
    let at2 = next at1 c.in_ok-type_id.ensures.line c.in_ok-type_id.ensures.read in
    let owner = there at2 c.field-owner.ensures.field in
    let at3 = next at2 c.field-owner.ensures.line c.field-owner.ensures.read in
    let result = there at3 c.field-result_of.ensures.field in
    let some : 0 < length _ = rw (← owner) (some_left c.is_empty.ensures c.if-is_empty.false) in
    let none = missed _ _ _ c.ok_or.ensures.value _ c.in_err-operation.was in
    hands_up c.from_residual-in_err-operation.ensures.1 none.1
    ∙ value_operation _ _ type_id some (ap id32 (sym owner) ∙ sym c.number_in.ensures ∙ none.0)

pub returns-in_err-index : goal.returns-in_err-index
returns-in_err-index c =
    let at1 = first c.new-rest.ensures.line c.new-rest.ensures.read in
    let type_id = took at1 id32 c.number.ensures.number c.in_ok-type_id.was in
    let at2 = next at1 c.in_ok-type_id.ensures.line c.in_ok-type_id.ensures.read in
    let owner = there at2 c.field-owner.ensures.field in
    let at3 = next at2 c.field-owner.ensures.line c.field-owner.ensures.read in
    let result = there at3 c.field-result_of.ensures.field in
    let some : 0 < length _ = rw (← owner) (some_left c.is_empty.ensures c.if-is_empty.false) in
    let none = missed _ _ _ c.ok_or-2.ensures.value _ c.in_err-index.was in
    hands_up c.from_residual-in_err-index.ensures.1 none.1
    ∙ value_index _ _ type_id some _
    (ap id32 (sym owner) ∙ sym c.number_in.ensures ∙ got _ _ _ c.ok_or.ensures.value _ c.in_ok-operation.was)
    (ap integer64 (sym result) ∙ sym c.number_in-2.ensures ∙ none.0)

pub returns : goal.returns
returns c =
    let at1 = first c.new-rest.ensures.line c.new-rest.ensures.read in
    let type_id = took at1 id32 c.number.ensures.number c.in_ok-type_id.was in
    let at2 = next at1 c.in_ok-type_id.ensures.line c.in_ok-type_id.ensures.read in
    let owner = there at2 c.field-owner.ensures.field in
    let at3 = next at2 c.field-owner.ensures.line c.field-owner.ensures.read in
    let result = there at3 c.field-result_of.ensures.field in
    let some : 0 < length _ = rw (← owner) (some_left c.is_empty.ensures c.if-is_empty.false) in
    value_row _ _ type_id some _
    (ap id32 (sym owner) ∙ sym c.number_in.ensures ∙ got _ _ _ c.ok_or.ensures.value _ c.in_ok-operation.was) _
    (ap integer64 (sym result) ∙ sym c.number_in-2.ensures ∙ got _ _ _ c.ok_or-2.ensures.value _ c.in_ok-index.was)
